pub mod RegionLemmas
pub mod JoinedLaws
