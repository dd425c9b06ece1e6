-- What loops and private calls keep; no public clause cites it.
pub mod Work
pub mod Marks
pub mod Settled
