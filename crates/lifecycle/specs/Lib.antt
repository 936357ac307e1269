-- What each event does to the deadlines, and to what is known of the workload; with the laws of a tick in which nothing is due.
pub mod Setters
pub mod Clocks
pub mod Life
