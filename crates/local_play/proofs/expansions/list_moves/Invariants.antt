use Rattle.std.proofs.Common.{◌≡◌, ◌≤◌, List, length}
use Rattle.go_grid.specs.declared.grid.Cell.{Cell}
use Rattle.go_grid.specs.declared.region.Touch.{Touch}
use Rattle.local_play.specs.Links.{IsTable}
use Rattle.local_play.specs.Packed.{pack}
use Rattle.local_play.specs.GivenMoves.{HaveGiven, tries_left}
use Rattle.local_play.proofs.expansions.list_moves.Given as goal

abbrev pub invariant-turns : goal.invariant-turns
invariant-turns g l = (touch : List Touch) (cells : List Cell) → IsTable touch l.links → length cells ≡ length touch
    → l.fn.from ≡ pack cells → HaveGiven touch cells l.moves.items l.left

abbrev pub decreases-turns : goal.decreases-turns
decreases-turns g l = tries_left l.left

abbrev pub invariant-listing : goal.invariant-listing
invariant-listing g l = record {
  given : (touch : List Touch) (cells : List Cell) → IsTable touch l.links → length cells ≡ length touch
      → l.fn.from ≡ pack cells → HaveGiven touch cells l.moves.items l.left;
  fewer : tries_left l.left ≤ tries_left l.initial.left;
}

abbrev pub decreases-listing : goal.decreases-listing
decreases-listing g l = tries_left l.left
