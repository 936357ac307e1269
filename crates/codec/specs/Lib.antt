-- The records of an open channel: both ways between a record and its bytes, and that each undoes the other.
pub mod Codec
pub mod CodecLaws
pub mod RoundTrip
pub mod Edges
