-- That the timeout ends a program that hangs, file by file.
pub mod Hung
pub mod Session
