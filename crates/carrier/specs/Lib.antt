-- What records and frames do alike on a runner.
pub mod Carrier
pub mod CarrierLaws
pub mod SaidLaws
pub mod Writes
