-- A new stone on the board before any is taken off, and what is found out about it.
use Rattle.std.specs.Prelude.{ℕ, List, Bool, Result, Ok, Err}
use Rattle.go_grid.specs.declared.grid.Cell.{Cell}
use Rattle.go_grid.specs.declared.grid.Colour.{Colour}
use Rattle.go_grid.specs.Board.{Board, HasStone, IsEmpty, other}
use Rattle.go_grid.specs.Chain.{InChain, HasLiberty}
use Rattle.go_grid.specs.Marks.{IsMarked, Marks}
use Rattle.go_play.specs.declared.placements.PlaceError.{PlaceError}
use Rattle.go_play.specs.declared.placements.PlaceError.TheVariants.{Occupied, Suicide}
use Rattle.go_play.specs.declared.placements.Tried.{Tried}
use Rattle.go_play.specs.Place.{IsTaken, IsCleared, Breathes, IsSuicide}
use Rattle.go_play.specs.inner.Place.{with_stone}

-- the sets are the stones of each colour and the empty points of the board with the new stone
pub record IsTried (g : Board) (p : ℕ) (c : Colour) (t : Tried) : Type 0 where
  pub own : Marks t.own (HasStone (with_stone g p c) c)
  pub theirs : Marks t.theirs (HasStone (with_stone g p c) (other c))
  pub empty : Marks t.empty (IsEmpty (with_stone g p c))

-- `q` is of the chain of `s`, a stone of the colour without a liberty
abbrev pub IsLost : Board → Colour → ℕ → ℕ → Type 0
IsLost b d s q = HasStone b d s × ¬ HasLiberty b d s × InChain b d s q

-- what of the judged stones has no liberty is taken with its chain
abbrev pub AreJudged : Board → Colour → List Bool → List Bool → Type 0
AreJudged b d judged taken = (s q : ℕ) → IsMarked judged s → IsLost b d s q → IsMarked taken q

-- how a placing is judged: the stones that it takes where it is legal, or why it is refused
abbrev pub Judges : Board → ℕ → Colour → Result (List Bool) PlaceError → Type 0
Judges g p c (Ok taken) = IsEmpty g p × Marks taken (IsTaken g p c)
    × ((cells : List Cell) → IsCleared g p c cells → Breathes g cells c p)
Judges g p c (Err Occupied) = ¬ IsEmpty g p
Judges g p c (Err Suicide) = IsEmpty g p × IsSuicide g p c
