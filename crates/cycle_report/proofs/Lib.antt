pub mod CycleSolutionLaws
pub mod CycleValuesLaws
pub mod CycleAnalysisLaws
