use Rattle.std.proofs.Common.{◌+◌, ◌≤◌, take}
use Rattle.game_store.specs.Meaning.{Extends}
use Rattle.endgame_solver.specs.Faults.{most_steps}
use Rattle.endgame_solver.specs.inner.Sharing.{SharesBelow}
use Rattle.endgame_solver.proofs.region_values.solve_regions.Given as goal

abbrev pub invariant-regions : goal.invariant-regions
invariant-regions g l = record {
  shared : SharesBelow l.limits l.regions l.book.graphs.items l.book.values.items l.book.views.items l.kinds.items l.store l.number;
  steps : l.steps ≤ l.initial.steps + most_steps l.limits (take l.number l.regions);
  kept : Extends l.initial.store l.store;
}
