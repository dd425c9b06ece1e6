-- What loops and private calls keep; no public clause cites it.
pub mod Scan
pub mod Reading
pub mod Setup
pub mod Values
pub mod Territory
