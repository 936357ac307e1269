-- What the contract of `search` cites (Search), its laws, and small examples.
pub mod Search
pub mod SearchLaws
pub mod Edges
