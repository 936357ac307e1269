-- The frames of RFC 9113: both ways between a frame and its bytes, and that each undoes the other.
pub mod Framing
pub mod FramingLaws
pub mod RoundTrip
pub mod Edges
