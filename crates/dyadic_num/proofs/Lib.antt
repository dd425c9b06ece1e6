pub mod SimplestLemmas
pub mod FractionLemmas
pub mod ExponentLemmas
