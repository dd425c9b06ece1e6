use Rattle.std.proofs.Common.{ℕ, ◌-◌, ◌^◌, List}
use Rattle.go_grid.specs.declared.region.Touch.{Touch}
use Rattle.local_play.specs.Places.{Has}
use Rattle.local_play.specs.Links.{IsTable}
use Rattle.local_play.proofs.LinkLemmas.{Flooding}
use Rattle.local_play.proofs.links.Links.flood.Given as goal

abbrev pub invariant-flooding : goal.invariant-flooding
invariant-flooding l = record {
  first : (q : ℕ) → Has l.fn.seeds q → Has l.places q;
  flooding : (touch : List Touch) → IsTable touch l.self → Flooding touch l.fn.seeds l.fn.within l.places l.done l.near;
}

abbrev pub decreases-flooding : goal.decreases-flooding
decreases-flooding l = 2 ^ 64 - l.done.0
