use Rattle.std.proofs.Common.{◌≡◌}
use Rattle.sum_outcome.specs.Memo.{Fits}
use Rattle.whole_budgets.specs.EnginePlay.{HoldsOff}
use Rattle.cycle_solver.proofs.KeepingLaws.{NoStoneOf}
use Rattle.cycle_solver.proofs.holding_moves.holding_stone.Given as goal

abbrev pub invariant-points : goal.invariant-points
invariant-points l = (l.sum ≡ l.fn.sum) × Fits l.present.store.now l.search × NoStoneOf l.present.whole.now (HoldsOff l.present.whole.now) l.number
