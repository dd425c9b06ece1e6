use Rattle.std.proofs.Common.{◌+◌, ◌-◌, ◌∙◌, ◌≡◌, arith, below_more, get_or, length, min, set}
use Rattle.std.proofs.lemmas.Bool.{both_ways}
use Rattle.whole_budgets.specs.EnginePlay.{WinsWithList}
use Rattle.cycle_solver.specs.GameLists.{game_at, layers_for}
use Rattle.cycle_solver.proofs.LeastLaws.{most_wins}
use Rattle.cycle_solver.proofs.least_budgets.least_at.Goals as goal

pub wins_at-requires-clause-but : goal.wins_at-requires-clause-but
wins_at-requires-clause-but c = c.rising.invariant.0

pub wins_at-requires-clause-fits : goal.wins_at-requires-clause-fits
wins_at-requires-clause-fits c = c.rising.invariant.1

pub rising-preserved : goal.rising-preserved
rising-preserved c =
    let seen = c.args.present.now in (
      (c.rising.budget, c.wins_at.ensures.summed),
      c.wins_at.ensures.fits,
      below_more (λ j. ¬ WinsWithList seen.regions.now seen.whole.now.side seen.whole.now (set c.args.budgets.now c.args.k j)) c.rising.budget c.rising.invariant.2
          (λ w. both_ways c.wins_at.result c.if-wins_at.false (c.wins_at.ensures.wins.1 w)),
    )

pub returns-then-wins_at-clause-least : goal.returns-then-wins_at-clause-least
returns-then-wins_at-clause-least c = record { wins = c.wins_at.ensures.wins.0 c.if-wins_at.true; least = c.rising.invariant.2 }

pub put_budget-requires-clause-but : goal.put_budget-requires-clause-but
put_budget-requires-clause-but c = c.rising.invariant.0

pub returns-clause-least : goal.returns-clause-least
returns-clause-least c =
    let seen = c.args.present.now in
    let layers : c.steady_budget-steady.result + 1 ≡ length (layers_for (game_at seen.games.now c.args.k) seen.whole.now.side) =
    c.steady_budget-steady.ensures ∙ (λ i. length (layers_for (game_at seen.games.now c.args.k) (c.side.ensures i))) in
    let most : c.min-most.result ≡ min (get_or c.args.budgets.now c.args.k 0) (length (layers_for (game_at seen.games.now c.args.k) seen.whole.now.side) - 1) =
    omega (arith, c.min-most.ensures, layers) in
    record {
      wins = most_wins c.requires.seen seen.whole.now.side c.args.budgets.now c.args.sum.now c.args.k c.min-most.result c.requires.known c.requires.many
          c.requires.summed most c.requires.wins;
      least = λ j lt. c.rising.invariant.2 j (omega (arith, lt, c.rising-test.false));
    }

pub steady_budget-steady-requires : goal.steady_budget-steady-requires
steady_budget-steady-requires c = omega (arith, c.requires.known, c.requires.seen.solved.many)

pub wins_at-requires-clause-seen : goal.wins_at-requires-clause-seen
wins_at-requires-clause-seen c = c.requires.seen

pub wins_at-requires-clause-known : goal.wins_at-requires-clause-known
wins_at-requires-clause-known c = c.requires.known

pub wins_at-requires-clause-many : goal.wins_at-requires-clause-many
wins_at-requires-clause-many c = c.requires.many

pub returns-then-wins_at-clause-summed : goal.returns-then-wins_at-clause-summed
returns-then-wins_at-clause-summed c = c.wins_at.ensures.summed

pub returns-then-wins_at-clause-fits : goal.returns-then-wins_at-clause-fits
returns-then-wins_at-clause-fits c = c.wins_at.ensures.fits

pub put_budget-requires-clause-seen : goal.put_budget-requires-clause-seen
put_budget-requires-clause-seen c = c.requires.seen

pub put_budget-requires-clause-known : goal.put_budget-requires-clause-known
put_budget-requires-clause-known c = c.requires.known

pub put_budget-requires-clause-many : goal.put_budget-requires-clause-many
put_budget-requires-clause-many c = c.requires.many

pub returns-clause-summed : goal.returns-clause-summed
returns-clause-summed c = c.put_budget.ensures

pub returns-clause-fits : goal.returns-clause-fits
returns-clause-fits c = c.rising.invariant.1
