pub mod LocalPlay
pub mod Packed
pub mod Places
pub mod Links
pub mod Moves
pub mod GivenMoves
pub mod Limits
pub mod inner
