use Rattle.std.proofs.Common.{◌∙◌, ap₂, subst}
use Rattle.std.specs.Prelude.{IfOk, IfErr}
use Rattle.short_games.specs.Examples.{choice}
use Rattle.game_text.specs.inner.Machine.{IsTaken}
use Rattle.game_text.specs.inner.Refusals.{IsFormRefusal}
use Rattle.game_text.proofs.named_games.taken_up.Goals as goal

pub returns-clause-taken : goal.returns-clause-taken
returns-clause-taken c = subst (λ G. IfOk c.taken_choice.result (λ id. IsTaken c.taken_choice.new.store c.args.parts_limit G id)) (ap₂ choice c.in_ok-zero.ensures.value.1 (c.in_ok-zero.ensures.kept.same _ c.in_ok-star.ensures.value.0 ∙ c.in_ok-star.ensures.value.1)) c.taken_choice.ensures.taken

pub returns-clause-refusal : goal.returns-clause-refusal
returns-clause-refusal c = subst (λ G. IfErr c.taken_choice.result (λ e. IsFormRefusal G c.args.parts_limit e)) (ap₂ choice c.in_ok-zero.ensures.value.1 (c.in_ok-zero.ensures.kept.same _ c.in_ok-star.ensures.value.0 ∙ c.in_ok-star.ensures.value.1)) c.taken_choice.ensures.refusal
