-- The words of the session card, a line as a call, an answer as a line, and 01's table of them; what a call of the code stands for.
pub mod Words
pub mod Lines
pub mod Answers
pub mod Zeros
pub mod Meaning
pub mod Table
