-- The input of a workload, and the laws that callers use.
pub mod Setters
pub mod Input
