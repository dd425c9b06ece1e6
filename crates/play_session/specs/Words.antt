-- What a line asks for.
use Rattle.std.specs.Prelude.{◌≡◌, ℕ, List, Option, Some, None}
use Rattle.go_grid.specs.Board.{Board}
use Rattle.sgf_go.specs.Values.{trimmed}
use Rattle.whole_rules.specs.declared.states.Move.{Move}
use Rattle.whole_rules.specs.Moves.{IsMoveOnBoard, move_word}

-- the move that the word names, whose point is on the board, if it names one
abbrev pub IsNamed : ℕ → ℕ → List ℕ → Option Move → Type 0
IsNamed columns rows word (Some m) = IsMoveOnBoard columns rows m × (word ≡ move_word columns m)
IsNamed columns rows word None = (m : Move) → IsMoveOnBoard columns rows m → ¬ (word ≡ move_word columns m)

-- the move that the line names, without the white space at its ends, if it names one
abbrev pub NamesMove : Board → List ℕ → Option Move → Type 0
NamesMove g line asked = IsNamed g.columns g.rows (trimmed line) asked
