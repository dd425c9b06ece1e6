pub mod Depth
pub mod NamedText
pub mod Refusals
pub mod Reading
pub mod Laws
pub mod inner
