-- Numbers in bytes, and bytes as text.
pub mod Bytes
pub mod BytesLaws
pub mod Text
pub mod Edges
