-- That what our runner says keeps the judge's rules, file by file.
pub mod Told
pub mod Judged
pub mod Begins
pub mod Input
pub mod Rest
pub mod Talk
pub mod Received
pub mod Said
pub mod Lists
pub mod Session
pub mod Carried
