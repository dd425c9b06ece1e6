pub mod Limits
pub mod Line
pub mod Solve
pub mod Game
pub mod Engine
pub mod Run
pub mod inner
