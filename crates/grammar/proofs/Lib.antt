-- The proofs of what is claimed of cards, of any bytes and line by line.
pub mod Called
pub mod Refused
pub mod Calls
pub mod ByLine
pub mod Later
pub mod Made
pub mod Opened
pub mod LeftOpen
pub mod Grants
