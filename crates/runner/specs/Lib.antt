-- The runner: its state, what is met before a call, what each call does, and each call whole.
pub mod State
pub mod Life
pub mod Streams
pub mod Message
pub mod Range
pub mod RangeLaws
pub mod SmallestLaws
pub mod MessageLaws
pub mod TerminalLaws
pub mod Calls
