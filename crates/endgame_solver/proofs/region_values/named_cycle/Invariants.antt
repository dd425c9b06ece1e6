use Rattle.std.proofs.Common.{◌≡◌, map, take}
use Rattle.endgame_solver.specs.Faults.{named}
use Rattle.endgame_solver.proofs.region_values.named_cycle.Given as goal

abbrev pub invariant-moves : goal.invariant-moves
invariant-moves l = l.names ≡ map (named l.region) (take l.step-index l.moves)
