-- What loops and private calls keep; no public clause cites it.
pub mod Flags
pub mod Scaffolds
pub mod Breaks
pub mod Drawings
pub mod Thermographs
