pub mod Played
pub mod EngineGame
pub mod Opening
pub mod Room
pub mod inner
