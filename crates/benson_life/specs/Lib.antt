pub mod Life
pub mod Held
pub mod Region
pub mod Walls
pub mod Territory
pub mod Groups
pub mod inner
