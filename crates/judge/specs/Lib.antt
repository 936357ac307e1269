-- The judge by one item, the rules over whole lists, and that they are the same.
pub mod Judge
pub mod Rules
pub mod Exact
pub mod Edges
