-- What the proofs of several functions share, and what holds of every write.
pub mod Steps
pub mod Ended
