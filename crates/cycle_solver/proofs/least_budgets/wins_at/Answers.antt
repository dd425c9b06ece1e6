use Rattle.std.proofs.Common.{◌↔◌, IsTrue, get_or, set, subst}
use Rattle.short_games.specs.Number.{num}
use Rattle.short_games.specs.Sum.{◌+ᵍ◌, total}
use Rattle.game_store.specs.Meaning.{pick}
use Rattle.endgame_solver.specs.SumGame.{balance}
use Rattle.whole_budgets.specs.BudgetSums.{WinsGame}
use Rattle.cycle_solver.proofs.LeastLaws.{listed_told}
use Rattle.cycle_solver.proofs.SumLaws.{held_modest, modest_games}
use Rattle.cycle_solver.proofs.least_budgets.wins_at.Goals as goal

pub wins_sum-requires-clause-games : goal.wins_sum-requires-clause-games
wins_sum-requires-clause-games c =
    let held = c.requires.seen in
    modest_games held.solved held.at c.args.present.now.whole.now.side (λ j. get_or (set c.args.budgets.now c.args.k c.args.budget) j 0) c.put_budget.new.sum
    c.put_budget.ensures

pub wins_sum-requires-clause-purses : goal.wins_sum-requires-clause-purses
wins_sum-requires-clause-purses c = held_modest c.requires.seen c.purses-purses.ensures

pub returns-clause-wins : goal.returns-clause-wins
returns-clause-wins c =
    let Ts = c.args.present.now.store.now in
    let ids = c.put_budget.new.sum in
    listed_told c.requires.seen c.args.present.now.whole.now.side (set c.args.budgets.now c.args.k c.args.budget) ids c.put_budget.ensures
    c.side-side.ensures c.purses-purses.ensures
    (subst (λ d. IsTrue c.wins_sum.result ↔ WinsGame d c.side-side.result (total (pick Ts ids) +ᵍ num 1 (balance c.purses-purses.result))) c.side-side.ensures
    c.wins_sum.ensures.wins)
