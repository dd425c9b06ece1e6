use Rattle.std.proofs.Common.{sym, subst}
use Rattle.game_canon.specs.SumComparisons.{AreComparisonsRight}
use Rattle.sum_outcome.proofs.incentives.make_way.Goals as goal

pub returns-clause-right : goal.returns-clause-right
returns-clause-right c Ts w = (
  λ e among. w.0 e (c.shed_answers.ensures.kept e among),
  subst (AreComparisonsRight Ts) (sym c.new.ensures) (λ p answer e. cc),
)
