-- What the contracts of `ring` cite (Runs, Ring, Frames), the laws that callers use (Lent, RingLaws, AreaLaws, FrameLaws), small
-- examples, and laws of flags (Flags) and of signs (Signed) for the crates over it.
pub mod Runs
pub mod Lent
pub mod Ring
pub mod RingLaws
pub mod AreaLaws
pub mod Frames
pub mod FrameLaws
pub mod Edges
pub mod Flags
pub mod Signed
