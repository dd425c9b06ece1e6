use Rattle.std.proofs.Common.{arith, below_more}
use Rattle.std.proofs.lemmas.Bool.{both_ways}
use Rattle.whole_budgets.specs.BudgetPlay.{WinsWithCaptures}
use Rattle.cycle_solver.proofs.SumLaws.{enough_wins}
use Rattle.cycle_solver.proofs.asking.first_that_wins.Goals as goal

pub rising-preserved : goal.rising-preserved
rising-preserved c = (
  c.wins_with.ensures.sum.many,
  c.wins_with.ensures.fits,
  below_more (λ j. ¬ WinsWithCaptures c.args.present.now.regions.now c.args.player c.args.present.now.whole.now j) c.rising.captures c.rising.invariant.2
      (λ w. both_ways c.wins_with.result c.if-wins_with.false (c.wins_with.ensures.wins.1 w)),
)

pub returns-clause-least : goal.returns-clause-least
returns-clause-least c = record {
  wins = enough_wins c.requires.seen.0 c.args.player c.requires.winner c.args.sum.now c.requires.seen.1;
  least = λ j lt. c.rising.invariant.2 j (omega (arith, lt, c.rising-test.false));
}
