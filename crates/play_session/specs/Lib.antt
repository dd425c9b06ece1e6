pub mod Words
pub mod Session
pub mod Written
pub mod Laws
pub mod inner
