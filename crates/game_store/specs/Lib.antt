pub mod Meaning
pub mod Forms
pub mod Laws
pub mod Places
pub mod inner
