-- The output streams of a workload, and the laws that callers use.
pub mod Setters
pub mod Output
pub mod Outputs
