pub mod Ending
pub mod LocalGame
pub mod PositionTree
pub mod Laws
pub mod BudgetTree
pub mod Steady
pub mod BudgetLaws
pub mod GraphPlaces
