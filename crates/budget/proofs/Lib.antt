-- What one write does, what one call does to the input, and so over lists; and sessions that are computed.
pub mod Writes
pub mod Goes
pub mod Lists
pub mod Session
