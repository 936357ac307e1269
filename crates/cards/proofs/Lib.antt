-- What every card prints, by the definitions and by the code.
pub mod Lines
pub mod Runs
pub mod Host
pub mod Program
pub mod Session
