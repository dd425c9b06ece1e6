use Rattle.std.proofs.Common.{◌+◌, ◌≤◌, take}
use Rattle.game_store.specs.Meaning.{Extends}
use Rattle.endgame_solver.specs.Faults.{most_steps}
use Rattle.cycle_solver.specs.inner.Shared.{SharesBelow}
use Rattle.cycle_solver.proofs.shape_games.region_games.Given as goal

abbrev pub invariant-regions : goal.invariant-regions
invariant-regions g l = record {
  shares : SharesBelow l.limits l.most l.regions l.book l.kinds.items l.store l.number;
  steps : l.steps ≤ l.initial.steps + most_steps l.limits (take l.number l.regions);
  kept : Extends l.initial.store l.store;
}
