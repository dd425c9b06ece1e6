-- What loops and private calls keep; no public clause cites it.
pub mod Doing
pub mod Playing
pub mod Viewed
pub mod Written
