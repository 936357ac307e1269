-- What the proofs of several functions share.
pub mod Quiet
pub mod Guards
pub mod Ends
pub mod Flows
pub mod Says
