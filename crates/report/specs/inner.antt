-- What loops and private calls keep; no public clause cites it.
pub mod Analysis
pub mod Chains
pub mod Solution
pub mod Trial
pub mod Values
pub mod TopStones
