-- What a call that the code makes leaves and answers.
pub mod Making
