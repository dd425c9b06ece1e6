pub mod Pictures
pub mod Showings
