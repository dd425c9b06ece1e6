pub mod CycleSolution
pub mod CycleValues
pub mod CycleAnalysis
pub mod inner
