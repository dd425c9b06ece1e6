use Rattle.std.proofs.Common.{◌≡◌}
use Rattle.sum_outcome.specs.Memo.{Fits}
use Rattle.endgame_solver.proofs.WinningLaws.{NoStone}
use Rattle.cycle_solver.proofs.winning_moves.winning_stone.Given as goal

abbrev pub invariant-points : goal.invariant-points
invariant-points l = (l.sum ≡ l.fn.sum) × Fits l.present.store.now l.search × NoStone l.present.whole.now l.number
