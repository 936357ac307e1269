-- What is claimed of every card: what it prints, as definitions and by the code, however a host feeds it.
pub mod Runs
pub mod Host
pub mod Program
