-- What loops and private calls keep; no public clause cites it.
pub mod Amounts
pub mod Machine
pub mod Table
pub mod Returns
pub mod Answer
pub mod Steps
