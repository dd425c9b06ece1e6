use Rattle.short_games.specs.Tree.{tree_at}
use Rattle.std.proofs.lemmas.Result.{IfOk-weaker}
use Rattle.std.proofs.Common.{◌∙◌}
use Rattle.game_text.proofs.writing.write.Goals as goal

pub returns-clause-text : goal.returns-clause-text
returns-clause-text c = IfOk-weaker c.fitting.result _ _ (λ _ e. e ∙ (c.text_of.ensures ∙ c.in_ok-texts.ensures.kept.1)) c.fitting.ensures.text

pub returns-clause-within : goal.returns-clause-within
returns-clause-within c = c.fitting.ensures.within (tree_at c.args.store.now c.args.id) (c.text_of.ensures ∙ c.in_ok-texts.ensures.kept.1)

pub returns-clause-refusal : goal.returns-clause-refusal
returns-clause-refusal c = c.fitting.ensures.refusal (tree_at c.args.store.now c.args.id) (c.text_of.ensures ∙ c.in_ok-texts.ensures.kept.1)
