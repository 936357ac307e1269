-- What the contracts of `inbox` cite, and the laws that callers use.
pub mod Receiver
pub mod Inbox
pub mod Range
pub mod Need
pub mod RangeLaws
pub mod PopLaws
pub mod Edges
