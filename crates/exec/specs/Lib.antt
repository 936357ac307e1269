-- The vocabulary of document 01: what the contracts of `exec` cite, with the laws that callers use.
pub mod Refusal
pub mod Key
pub mod Stream
pub mod Each
pub mod Row
pub mod Limits
pub mod Time
pub mod Outcome
pub mod Written
pub mod Edges
