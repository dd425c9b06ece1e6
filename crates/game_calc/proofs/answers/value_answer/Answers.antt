use Rattle.std.proofs.Common.{ℕ}
use Rattle.std.proofs.lemmas.Result.{IfErr-weaker}
use Rattle.short_games.specs.Tree.{tree_at}
use Rattle.game_calc.specs.inner.Amounts.{IsAmount}
use Rattle.game_calc.specs.inner.Answer.{IsShownRefusal, IsUnanswered}
use Rattle.game_calc.specs.Expression.{Expression}
use Rattle.game_calc.specs.Expression.Line.{value}
use Rattle.game_calc.proofs.AnswerSteps.{unanswered}
use Rattle.game_calc.proofs.answers.value_answer.Goals as goal

pub returns-in-Known-clause-refusal : goal.returns-in-Known-clause-refusal
returns-in-Known-clause-refusal c = IfErr-weaker c.game_text.result (IsShownRefusal (tree_at c.args.store.now c.in-Known.id)) (λ error. (limit : ℕ) (E : Expression) → IsAmount c.args.store.now limit E c.args.amount → IsUnanswered limit (value E) error)
    (λ error h limit E w. unanswered c.args.store.now limit E c.in-Known.id c.args.amount error c.in-Known.is h w) c.game_text.ensures.refusal
