pub mod Trial
pub mod Short
pub mod inner
