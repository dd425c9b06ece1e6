-- What loops and private calls keep; no public clause cites it.
pub mod Sharing
pub mod Solving
pub mod Valued
pub mod WholeParts
pub mod Held
pub mod Views
pub mod Regions
pub mod Thresholds
pub mod Asked
pub mod Line
