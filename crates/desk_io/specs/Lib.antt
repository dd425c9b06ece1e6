pub mod Outside
pub mod Files
pub mod Memory
pub mod Lines
pub mod Limits
pub mod inner
pub mod Desk
