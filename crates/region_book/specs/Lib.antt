pub mod Shape
pub mod Image
pub mod Law
pub mod inner
