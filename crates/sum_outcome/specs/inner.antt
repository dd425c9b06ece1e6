-- What loops and private calls keep; no public clause cites it.
pub mod Search
pub mod Examples
pub mod Incentives
pub mod Memo
pub mod Opposites
