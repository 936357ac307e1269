-- What the values of the code stand for, and the laws that its proofs go by.
pub mod Meaning
pub mod Naming
pub mod Methods
pub mod WordLaws
pub mod FieldLaws
pub mod Places
