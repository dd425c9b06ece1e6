pub mod Output
pub mod Complete
pub mod KeepsWin
pub mod Use
pub mod Steps
pub mod Laws
