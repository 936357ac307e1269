-- What a peer hears: the messages of a list, what a reader makes of what is written, and the claims.
pub mod Messages
pub mod Heard
pub mod Channel
pub mod Claim
