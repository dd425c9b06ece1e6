-- What loops and private calls keep; no public clause cites it.
pub mod Generating
pub mod Cycles
pub mod Doing
pub mod Obeying
pub mod Analysing
pub mod Settling
