-- Moves on a board, and their words.
use Rattle.std.specs.Prelude.{ℕ, ◌*◌, ◌<◌, List, codes}
use Rattle.go_grid.specs.Name.{point_name}
use Rattle.whole_rules.specs.declared.states.Move.{Move}
use Rattle.whole_rules.specs.declared.states.Move.TheVariants.{Stone, Spend, Half}

-- a stone's point is on the board of this size
abbrev pub IsMoveOnBoard : ℕ → ℕ → Move → Type 0
IsMoveOnBoard columns rows (Stone p) = p < columns * rows
IsMoveOnBoard columns rows _ = Unit {0}

-- the word of a move on a board of so many columns
abbrev pub move_word : ℕ → Move → List ℕ
move_word columns (Stone p) = point_name columns p
move_word columns Spend = codes "spend"
move_word columns Half = codes "half"
