-- A program that hangs: that its timeout ends it.
pub mod HungClaim
