-- What loops and private calls keep; no public clause cites it.
pub mod Chain
pub mod Meaning
pub mod Places
