-- What loops and private calls keep; no public clause cites it.
pub mod Doing
pub mod Naming
