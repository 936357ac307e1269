-- A log line by line, and list by list.
pub mod ByList
