-- What the proofs of more than one function cite, and what holds of every ending.
pub mod Found
pub mod Laying
pub mod Told
pub mod Closing
pub mod Ended
