use Rattle.std.proofs.Common.{inr}
use Rattle.std.proofs.lemmas.Result.{IfOk-weaker}
use Rattle.game_canon.proofs.ReductionLaws.{match-along, answer-from, kept-from}
use Rattle.game_canon.proofs.reversal.answer_to.Goals as goal

pub returns-in-Options-clause-found : goal.returns-in-Options-clause-found
returns-in-Options-clause-found c = IfOk-weaker c.first_covered.result _ _ (λ found. match-along found _ _ _ _
    (λ h. inr (kept-from c.args.side c.args.games.now.store.now _ c.args.id _ _ c.in-Options.ensures.form h))
    (λ x h. answer-from c.args.side c.args.games.now.store.now _ c.args.id _ _ x c.in-Options.ensures.form h)
    ) (rw c.far_of.ensures at c.first_covered.ensures.found)
