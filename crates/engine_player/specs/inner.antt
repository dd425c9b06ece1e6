-- What private calls see and keep; no public clause cites it.
pub mod Kept
pub mod Viewed
