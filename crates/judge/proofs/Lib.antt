-- Why the judge is the rules.
pub mod Lists
pub mod Heard
pub mod Keeps
pub mod Exact
