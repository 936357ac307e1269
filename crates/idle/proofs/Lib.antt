-- That idle ticks make no difference, file by file.
pub mod Calm
pub mod Passes
pub mod Calls
pub mod Records
pub mod Ticks
pub mod Idle
pub mod Polls
pub mod Session
