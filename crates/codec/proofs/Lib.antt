-- What was read, written again.
pub mod RoundTrip
