use Rattle.std.proofs.Common.{◌∙◌, ap, sym}
use Rattle.short_games.specs.Tree.{tree_at}
use Rattle.game_text.proofs.NimberIdLaws.{number-is-named}
use Rattle.game_text.proofs.writing.form_text.Goals as goal

pub returns-in_ok-number_text-in-Number-clause-text : goal.returns-in_ok-number_text-in-Number-clause-text
returns-in_ok-number_text-in-Number-clause-text c = ap (λ v. v.items) c.into_bytes.ensures.value ∙ c.in_ok-number_text-in-Number.ensures ∙ sym (number-is-named (tree_at c.args.store.now c.args.id) c.in-Number.x c.in-Number.ensures.form)
