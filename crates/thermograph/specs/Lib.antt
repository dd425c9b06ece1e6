pub mod Breaks
pub mod Drawings
pub mod PastBounds
pub mod Thermographs
pub mod inner
