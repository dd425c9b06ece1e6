pub mod GraphMoves
pub mod MoveLaws
pub mod TreeLaws
pub mod PositionLemmas
pub mod BudgetTreeLaws
pub mod ExchangeLaws
