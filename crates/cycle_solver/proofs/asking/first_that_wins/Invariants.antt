use Rattle.std.proofs.Common.{ℕ, ◌≡◌, ◌<◌, length}
use Rattle.sum_outcome.specs.Memo.{Fits}
use Rattle.whole_budgets.specs.BudgetPlay.{WinsWithCaptures}
use Rattle.cycle_solver.proofs.asking.first_that_wins.Given as goal

abbrev pub invariant-rising : goal.invariant-rising
invariant-rising l = (length l.sum ≡ length l.present.games.now) × Fits l.present.store.now l.search
    × ((j : ℕ) → j < l.captures → ¬ WinsWithCaptures l.present.regions.now l.player l.present.whole.now j)
