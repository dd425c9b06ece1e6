pub mod Komi
pub mod Numbers
pub mod Words
