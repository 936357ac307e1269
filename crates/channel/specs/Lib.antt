-- The channel: the two record calls on a runner, and the edges of document 01.
pub mod Calls
pub mod CallLaws
pub mod Edges
pub mod Ended
