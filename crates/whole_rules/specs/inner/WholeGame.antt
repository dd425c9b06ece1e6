-- The moves below a place of the board.
use Rattle.std.specs.Prelude.{ℕ, ◌<◌, ◌↔◌, List, Contains}
use Rattle.whole_rules.specs.declared.states.Move.{Move}
use Rattle.whole_rules.specs.WholeGame.{Whole, IsLegal, rank, AreOrdered}

-- the list has the legal moves whose rank is below `n`, in their order
pub record MovesBelow (s : Whole) (n : ℕ) (ms : List Move) : Type 0 where
  pub ordered : AreOrdered ms
  pub exact : (m : Move) → Contains ms m ↔ ((rank m < n) × IsLegal s m)
