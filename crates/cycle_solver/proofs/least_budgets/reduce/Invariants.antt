use Rattle.std.proofs.Common.{◌≡◌, length}
use Rattle.sum_outcome.specs.Memo.{Fits}
use Rattle.whole_budgets.specs.EnginePlay.{AreReducedBelow, WinsWithList}
use Rattle.cycle_solver.specs.Held.{AreSummedWith}
use Rattle.cycle_solver.proofs.least_budgets.reduce.Given as goal

abbrev pub invariant-regions : goal.invariant-regions
invariant-regions l = AreReducedBelow l.present.regions.now l.present.whole.now l.k l.fn.budgets l.budgets
    × (length l.budgets ≡ length l.present.regions.now)
    × WinsWithList l.present.regions.now l.present.whole.now.side l.present.whole.now l.budgets
    × AreSummedWith l.present.games.now l.present.places.now l.present.whole.now.side l.budgets l.sum
    × Fits l.present.store.now l.search
