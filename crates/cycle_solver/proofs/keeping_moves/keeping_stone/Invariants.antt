use Rattle.std.proofs.Common.{◌≡◌}
use Rattle.sum_outcome.specs.Memo.{Fits}
use Rattle.cycle_solver.specs.Keeping.{Keeps}
use Rattle.cycle_solver.proofs.KeepingLaws.{NoStoneOf}
use Rattle.cycle_solver.proofs.keeping_moves.keeping_stone.Given as goal

abbrev pub invariant-points : goal.invariant-points
invariant-points l = (l.sum ≡ l.fn.sum) × Fits l.present.store.now l.search
    × NoStoneOf l.present.whole.now (Keeps l.present.regions.now l.present.whole.now l.budgets) l.number
