use Rattle.std.proofs.lemmas.Result.{IfOk-weaker}
use Rattle.short_games.specs.Tree.{tree_at}
use Rattle.short_games.proofs.IncentiveLaws.{incentive-dominates, incentive-dominates_back}
use Rattle.game_canon.proofs.ComparisonLaws.{through}
use Rattle.game_canon.proofs.incentives.compare_incentives.Goals as goal

pub returns-clause-answer : goal.returns-clause-answer
returns-clause-answer c =
    let Ts = c.args.store.now in
    IfOk-weaker c.sums_at_most.result _ _ (λ _ says. through says (through (c.cancelled.ensures.same Ts) (
      incentive-dominates_back (tree_at Ts c.args.game) (tree_at Ts c.args.option) (tree_at Ts c.args.other) (tree_at Ts c.args.other_option),
      incentive-dominates (tree_at Ts c.args.game) (tree_at Ts c.args.option) (tree_at Ts c.args.other) (tree_at Ts c.args.other_option),
    ))) c.sums_at_most.ensures.answer
