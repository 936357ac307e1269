-- What the contracts of `credit` cite.
pub mod Sender
