use Rattle.std.proofs.Common.{◌≡◌, ℕ, ◌<◌}
use Rattle.go_grid.specs.Chain.{IsLiberty}
use Rattle.go_grid.specs.Board.{IsUndeclared, other}
use Rattle.go_play.specs.Place.{IsSuicide}
use Rattle.benson_attack.proofs.captures.press.Given as goal

abbrev pub invariant-loop-number : goal.invariant-loop-number
invariant-loop-number l = (l.board ≡ l.fn.board)
    × ((p : ℕ) → p < l.number → IsLiberty l.fn.board (other l.colour) l.fn.victim p → IsUndeclared l.fn.board p → IsSuicide l.fn.board p l.colour)
