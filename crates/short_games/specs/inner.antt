-- What loops and private calls keep; no public clause cites it.
pub mod Canonical
pub mod Lines
pub mod Reduction
