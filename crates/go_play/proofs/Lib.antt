pub mod BoardPlayLemmas
pub mod PlaceLemmas
pub mod StripLemmas
pub mod SetupLemmas
