use Rattle.std.proofs.Common.{ℕ, List}
use Rattle.go_grid.specs.declared.grid.Cell.{Cell}
use Rattle.go_grid.specs.declared.grid.Colour.{Colour}
use Rattle.go_grid.specs.declared.region.Touch.{Touch}
use Rattle.local_play.specs.Places.{Has}
use Rattle.local_play.specs.Links.{IsTable}
use Rattle.local_play.specs.inner.Lasting.{AreSidePlaces}
use Rattle.local_play.proofs.JudgingLemmas.{Judging}
use Rattle.local_play.proofs.sides.lasting.Given as goal

abbrev pub invariant-judging : goal.invariant-judging
invariant-judging l = record {
  stones : (q : ℕ) → Has l.rest q → Has l.fn.stones q;
  judging : (touch : List Touch) (cells : List Cell) (c : Colour) → IsTable touch l.links
      → AreSidePlaces touch cells c l.fn.stones l.fn.beside l.fn.empty → Judging touch cells c l.rest l.lasting;
}

abbrev pub decreases-judging : goal.decreases-judging
decreases-judging l = l.rest.0
