-- What loops keep; no public clause cites it but those of the sessions' own runs.
pub mod Taking
pub mod Finding
