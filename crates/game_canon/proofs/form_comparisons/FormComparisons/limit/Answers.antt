use Rattle.std.proofs.Common.{sym, subst}
use Rattle.game_canon.specs.FormComparisons.{AreFormComparisonsRight}
use Rattle.game_canon.proofs.form_comparisons.FormComparisons.limit.Goals as goal

pub returns : goal.returns
returns c = λ Ts right a b answer k. subst (AreFormComparisonsRight Ts) (sym c.self.view_is) right a b answer (c.limit.ensures a b answer k)
