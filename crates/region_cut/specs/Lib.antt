pub mod Cut
pub mod LocalBoard
pub mod inner
