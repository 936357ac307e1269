-- The smallest grant of the input's units: when credit comes, and how much.
pub mod GrantsClaim
