-- What the values of the code stand for, and the laws that its proofs go by.
pub mod Feeding
pub mod Laying
pub mod Holding
pub mod Turning
