-- What loops and private calls keep; no public clause cites it.
pub mod Machine
pub mod Nesting
pub mod Slashes
pub mod Written
pub mod Refusals
