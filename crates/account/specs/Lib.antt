-- Demand 3: the calls, what they leave, the account, and the claim; and what is claimed beside it.
pub mod Step
pub mod Account
pub mod Claim
pub mod Units
pub mod LateClaim
pub mod InputClaim
pub mod Records
pub mod TurnClaim
pub mod Refused
