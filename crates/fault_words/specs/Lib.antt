pub mod Naming
pub mod FaultWords
pub mod NamedPoints
