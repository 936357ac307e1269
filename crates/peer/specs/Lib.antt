-- What a peer hears of frames: the bytes that stand on its wire, what it makes of them, and the claim.
pub mod Framed
pub mod Claim
