-- Laws that only proofs cite.
mod Lines
