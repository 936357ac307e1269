-- Laws that only proofs cite.
mod Opens
mod Held
mod Turns
