-- What private calls keep; no public clause cites it.
pub mod Top
