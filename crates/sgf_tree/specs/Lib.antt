pub mod Grammar
pub mod Reading
pub mod Limits
pub mod inner
