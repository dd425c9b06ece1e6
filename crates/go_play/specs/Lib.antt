pub mod Laws
pub mod Place
pub mod Setup
pub mod inner
