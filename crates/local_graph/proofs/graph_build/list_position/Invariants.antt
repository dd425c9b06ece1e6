use Rattle.std.proofs.Common.{◌≤◌, ◌≡◌, List, length}
use Rattle.go_grid.specs.declared.grid.Cell.{Cell}
use Rattle.go_grid.specs.declared.region.Touch.{Touch}
use Rattle.local_play.specs.declared.local_move.LocalMove.{LocalMove}
use Rattle.local_play.specs.Links.{IsTable}
use Rattle.local_play.specs.Packed.{pack}
use Rattle.local_play.specs.GivenMoves.{HaveGiven, tries_left}
use Rattle.local_graph.specs.declared.graph.Edge.{Edge}
use Rattle.local_graph.specs.inner.Exploring.{AreNoted}
use Rattle.local_graph.specs.inner.PlaceTable.{IsPlaceTable}
use Rattle.local_graph.proofs.FoundLemmas.{Linking}
use Rattle.local_graph.proofs.graph_build.list_position.Given as goal

abbrev pub invariant-turns : goal.invariant-turns
invariant-turns g l = record {
  given : List LocalMove;
  have : (touch : List Touch) (cells : List Cell) → IsTable touch l.links → length cells ≡ length touch → l.fn.position ≡ pack cells
      → HaveGiven touch cells given l.moves;
  behind : List Edge;
  noted : AreNoted (length l.table.positions.items) behind l.fn.found l.found;
  linking : Linking l.fn.table.positions.items given l.fn.limit l.table.positions.items behind;
  table : IsPlaceTable l.table;
  numbers : l.table.numbers ≡ l.fn.table.numbers;
}

abbrev pub decreases-turns : goal.decreases-turns
decreases-turns g l = tries_left l.moves

abbrev pub invariant-linking : goal.invariant-linking
invariant-linking g l = record {
  given : List LocalMove;
  have : (touch : List Touch) (cells : List Cell) → IsTable touch l.links → length cells ≡ length touch → l.fn.position ≡ pack cells
      → HaveGiven touch cells given l.moves;
  behind : List Edge;
  noted : AreNoted (length l.table.positions.items) behind l.fn.found l.found;
  linking : Linking l.fn.table.positions.items given l.fn.limit l.table.positions.items behind;
  table : IsPlaceTable l.table;
  numbers : l.table.numbers ≡ l.fn.table.numbers;
  fewer : tries_left l.moves ≤ tries_left l.initial.moves;
}

abbrev pub decreases-linking : goal.decreases-linking
decreases-linking g l = tries_left l.moves
