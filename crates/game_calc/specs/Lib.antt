pub mod Steps
pub mod Expression
pub mod Laws
pub mod Answer
pub mod inner
