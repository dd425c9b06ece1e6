pub mod NameLemmas
pub mod TextLemmas
pub mod KeptLemmas
pub mod OrderLemmas
pub mod RangeLemmas
pub mod HandicapLemmas
pub mod ArgumentLemmas
