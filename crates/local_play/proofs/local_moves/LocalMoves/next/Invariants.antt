use Rattle.std.proofs.Common.{◌≤◌, List}
use Rattle.go_grid.specs.declared.grid.Cell.{Cell}
use Rattle.go_grid.specs.declared.region.Touch.{Touch}
use Rattle.local_play.specs.declared.local_move.LocalMove.{LocalMove}
use Rattle.local_play.specs.Links.{IsTable}
use Rattle.local_play.specs.GivenMoves.{HaveGiven, tries_left}
use Rattle.local_play.proofs.local_moves.LocalMoves.next.Given as goal

abbrev pub invariant-trying : goal.invariant-trying
invariant-trying l = record {
  given : (touch : List Touch) (cells : List Cell) (given : List LocalMove) → IsTable touch l.links
      → HaveGiven touch cells given l.initial.self → HaveGiven touch cells given l.self;
  fewer : tries_left l.self ≤ tries_left l.initial.self;
}

abbrev pub decreases-trying : goal.decreases-trying
decreases-trying l = tries_left l.self
