pub mod NearLemmas
pub mod PathLemmas
pub mod WalkLemmas
pub mod PointsLemmas
pub mod FillLemmas
pub mod PartsLemmas
pub mod BoardLemmas
pub mod ChainLemmas
pub mod PlayLemmas
pub mod LinkLemmas
pub mod NameLemmas
mod ExampleLemmas
pub mod DecidedLemmas
pub mod DeclaredLemmas
pub mod DecidedChainLemmas
