-- What a stream that is not open is to a maker, file by file.
pub mod Named
pub mod Refused
pub mod Blind
pub mod Alike
pub mod Unopened
pub mod Edges
