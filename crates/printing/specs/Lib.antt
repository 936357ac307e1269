-- Texts written one behind the other, and how long they are.
pub mod Written
pub mod Lengths
pub mod Adding
