use Rattle.std.proofs.Common.{◌≡◌}
use Rattle.sum_outcome.specs.Memo.{Fits}
use Rattle.endgame_solver.proofs.NextStoneLaws.{NoneKeeps}
use Rattle.endgame_solver.proofs.line_of_play.next_stone.Given as goal

abbrev pub invariant-points : goal.invariant-points
invariant-points l = (l.sum ≡ l.fn.sum) × Fits l.present.store.now l.search × NoneKeeps l.present.regions.now l.present.whole.now l.beyond l.number
