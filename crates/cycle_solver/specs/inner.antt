-- What private calls keep; no public clause cites it.
pub mod OneSum
pub mod Asked
pub mod Shared
