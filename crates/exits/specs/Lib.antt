-- How a channel ends: the signals that have a name, the requests that tell an exit, what both ways undo, and edges.
pub mod Signals
pub mod Exit
pub mod ExitLaws
pub mod SignalLaws
pub mod RoundTrip
pub mod Edges
