-- What the contracts of `decimal` cite (Decimal, Answers), their laws, what is read back from what is written, and small examples.
pub mod Decimal
pub mod DecimalLaws
pub mod Answers
pub mod SignedLaws
pub mod RoundTrip
pub mod Edges
