-- What loops and private calls keep; no public clause cites it.
pub mod Found
pub mod Exploring
pub mod PlaceTable
pub mod Searching
pub mod Graph
pub mod ShortEdge
pub mod Built
pub mod SearchedFor
pub mod Telling
pub mod Ranks
pub mod MadeWithReturns
pub mod Walk
