pub mod NameLemmas
pub mod OneOptionLemmas
pub mod SayingLemmas
pub mod ListingLemmas
pub mod JobLemmas
pub mod BoundLemmas
