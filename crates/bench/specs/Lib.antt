-- Laws of a loop's counter; neither a contract nor a proof of this crate cites them.
pub mod Turns
