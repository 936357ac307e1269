-- That what our runner says keeps the judge's rules.
pub mod TalkClaim
