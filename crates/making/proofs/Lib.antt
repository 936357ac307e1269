-- Laws that only proofs cite.
pub mod Kept
