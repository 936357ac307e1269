-- Where a session stands, and how a line is answered there.
pub mod Standing
