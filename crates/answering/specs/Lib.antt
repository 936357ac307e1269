-- What an answer of the code stands for.
pub mod Answering
