use Rattle.std.proofs.Common.{ℕ, ◌<◌, set}
use Rattle.sum_outcome.specs.Memo.{Fits}
use Rattle.whole_budgets.specs.EnginePlay.{WinsWithList}
use Rattle.cycle_solver.specs.Held.{AreSummedWith}
use Rattle.cycle_solver.proofs.least_budgets.least_at.Given as goal

abbrev pub invariant-rising : goal.invariant-rising
invariant-rising l = ((n : ℕ) × AreSummedWith l.present.games.now l.present.places.now l.present.whole.now.side (set l.budgets l.k n) l.sum)
    × Fits l.present.store.now l.search
    × ((j : ℕ) → j < l.budget → ¬ WinsWithList l.present.regions.now l.present.whole.now.side l.present.whole.now (set l.budgets l.k j))
