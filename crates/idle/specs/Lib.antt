-- Idle ticks: that they make no difference, and how often a host has to tick.
pub mod IdleClaim
pub mod PollClaim
