-- When credit comes under a smallest grant, file by file.
pub mod Unlost
pub mod Messages
pub mod Grants
pub mod Refuses
pub mod Session
pub mod Edges
pub mod Carried
