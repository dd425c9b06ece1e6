-- Alive stones and counted points never change in play.
use Rattle.std.specs.Prelude.{ℕ, ℤ, ◌≡◌, List, [], ◌∷◌, Bool}
use Rattle.go_grid.specs.declared.grid.Colour.{Colour}
use Rattle.go_grid.specs.Board.{Board}
use Rattle.go_grid.specs.Chain.{IsSettled}
use Rattle.benson_life.specs.Walls.{WallsStand, WallsBreathe}
use Rattle.whole_rules.specs.declared.states.Move.{Move}
use Rattle.whole_rules.specs.WholeGame.{Whole, IsMove}
use Rattle.whole_rules.specs.Opening.{IsOpening}

-- the moves lead from the one state to the other, one after the other
abbrev pub Plays : Whole → List Move → Whole → Type 0
Plays s [] t = s ≡ t
Plays s (m ∷ ms) t = (u : Whole) × IsMove s m u × Plays u ms t

-- after moves from the opening of a settled board, the alive stones and the counted points of that board are as they were,
-- and the chain of each of those stones has a liberty among the points counted for its colour
abbrev pub WallsLast : Type 0
WallsLast = (g : Board) (black white : ℕ) (komi : ℤ) (side : Colour) (tax : Bool) (s t : Whole) (ms : List Move)
    → IsSettled g → IsOpening g black white komi side tax s → Plays s ms t → WallsStand g t.board × WallsBreathe g t.board
