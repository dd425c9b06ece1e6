-- What loops and private calls keep; no public clause cites it.
pub mod Reports
pub mod File
pub mod Found
pub mod Position
pub mod Refusal
pub mod Trial
