pub mod Attack
pub mod Reached
pub mod Attacks
pub mod inner
