-- The first line of a card; what the values of the code stand for, and the laws of places.
pub mod Open
pub mod Meaning
pub mod PlaceLaws
pub mod Says
pub mod Timeout
pub mod Only
pub mod Table
pub mod Begins
