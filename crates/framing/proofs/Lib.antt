-- That reading and writing undo each other, what a reader ignores, and what is refused.
pub mod RoundTrip
pub mod Refused
