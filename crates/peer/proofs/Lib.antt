-- What a peer can know of frames, file by file.
pub mod Cut
pub mod Read
pub mod Counts
pub mod Peer
pub mod Session
