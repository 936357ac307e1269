-- A log of what somebody's runner said, and what the judge says of each list in it: definitions, their laws, and literal lines.
pub mod Log
pub mod LogLaws
pub mod Listens
pub mod ByList
pub mod Table
