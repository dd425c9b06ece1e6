-- Openings of one board with any komi.
use Rattle.std.specs.Prelude.{ℕ, ℤ, Bool}
use Rattle.go_grid.specs.declared.grid.Colour.{Colour}
use Rattle.go_grid.specs.Board.{Board}
use Rattle.whole_rules.specs.WholeGame.{Whole}
use Rattle.whole_rules.specs.Opening.{IsOpening}

-- what a game opens from but its komi and who begins: the board, the prisoners of each side, and whether there is a tax
pub record Ground : Type 0 where
  pub board : Board
  pub black_prisoners : ℕ
  pub white_prisoners : ℕ
  pub tax : Bool

-- the state opens the ground with this komi in half-points, any whole number, and this player to move
abbrev pub OpensWith : Ground → ℤ → Colour → Whole → Type 0
OpensWith x k c s = IsOpening x.board x.black_prisoners x.white_prisoners k c x.tax s

-- a ground that opens with some komi opens with each, whoever is to move
abbrev pub OpensWithEach : Type 0
OpensWithEach = (x : Ground) (k l : ℤ) (c d : Colour) (s : Whole) → OpensWith x k c s → (t : Whole) × OpensWith x l d t
