-- What loops and private calls keep; no public clause cites it.
pub mod CycleAnalysis
pub mod CycleSolution
pub mod CycleValues
