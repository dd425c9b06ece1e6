-- What loops and private calls keep; no public clause cites it.
pub mod Attack
pub mod Attacks
pub mod Reached
