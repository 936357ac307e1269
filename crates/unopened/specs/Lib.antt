-- What a stream that is not open is to a maker.
pub mod Alike
pub mod UnopenedClaim
