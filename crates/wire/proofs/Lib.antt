-- What a peer can know, file by file.
pub mod Ends
pub mod Order
pub mod Follows
pub mod Read
pub mod Counts
pub mod Wire
pub mod Session
