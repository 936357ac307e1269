-- The runner's calls after open, and what they answer.
pub mod Call
