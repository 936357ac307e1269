-- Which message comes next, and its edges.
pub mod Order
pub mod Edges
