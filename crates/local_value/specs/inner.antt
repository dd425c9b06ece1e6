-- What loops and private calls keep; no public clause cites it.
pub mod Options
pub mod OptionSets
pub mod Chains
pub mod Tables
pub mod Memo
pub mod Valuing
pub mod Layers
