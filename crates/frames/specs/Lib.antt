-- Frames: the two frame calls on a runner.
pub mod Calls
pub mod CallLaws
pub mod Edges
