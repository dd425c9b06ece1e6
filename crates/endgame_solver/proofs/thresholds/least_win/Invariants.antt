use Rattle.std.proofs.Common.{◌≡◌, ◌-◌}
use Rattle.short_games.specs.Sum.{total}
use Rattle.game_store.specs.Meaning.{pick}
use Rattle.sum_outcome.specs.Memo.{Fits}
use Rattle.endgame_solver.proofs.MarginLaws.{IsBetween}
use Rattle.endgame_solver.proofs.thresholds.least_win.Given as goal

abbrev pub invariant-halving : goal.invariant-halving
invariant-halving l = (l.sum ≡ l.fn.sum) × Fits l.store l.search × IsBetween (total (pick l.store l.fn.sum)) l.first l.lost l.won

abbrev pub decreases-halving : goal.decreases-halving
decreases-halving l = l.won - l.lost
