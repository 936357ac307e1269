-- What the contracts of `hexadecimal` cite (Hexadecimal, Answers), their laws, the rule of the table of digits, what is read back
-- from what is written, and small examples.
pub mod Hexadecimal
pub mod HexadecimalLaws
pub mod Digits
pub mod Answers
pub mod RoundTrip
pub mod Edges
