-- The session card: a session that is fed bytes, the calls that bytes make and how they are answered, a card line by line, lines by where it stands, refused ones,
-- and a programme left open.
pub mod Feed
pub mod Calls
pub mod ByLine
pub mod Table
pub mod Refused
pub mod LeftOpen
