-- What loops and private calls keep; no public clause cites it.
pub mod Bounds
pub mod Games
pub mod Ids
pub mod Sides
pub mod Changes
pub mod Comparisons
pub mod Followers
pub mod Reachable
pub mod SumComparisons
