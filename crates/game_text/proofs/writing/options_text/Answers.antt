use Rattle.std.proofs.Common.{nat_eq, sym, arith, subst, length, ◌<◌}
use Rattle.indexmap.specs.IndexMap.{get}
use Rattle.short_games.specs.Tree.{tree_at}
use Rattle.game_text.proofs.NamedLaws.{text-named}
use Rattle.game_text.proofs.SideTextLaws.{braces-is}
use Rattle.game_text.proofs.WritingSteps.{left-texts, right-texts, are-kept}
use Rattle.game_text.proofs.ReadingExitLaws.{at-none, at-some}
use Rattle.game_text.proofs.writing.options_text.Goals as goal

pub braces-requires-clause-left : goal.braces-requires-clause-left
braces-requires-clause-left c = are-kept c.args.store.now _ (get nat_eq c.args.texts.now.spans) _ (left-texts c.args.store.now c.args.id c.args.texts.now.bytes.items (get nat_eq c.args.texts.now.spans) _ _ c.requires.form c.requires.options)

pub braces-requires-clause-right : goal.braces-requires-clause-right
braces-requires-clause-right c = are-kept c.args.store.now _ (get nat_eq c.args.texts.now.spans) _ (right-texts c.args.store.now c.args.id c.args.texts.now.bytes.items (get nat_eq c.args.texts.now.spans) _ _ c.requires.form c.requires.options)

pub returns-in-Some-clause-text : goal.returns-in-Some-clause-text
returns-in-Some-clause-text c = sym (text-named (tree_at c.args.store.now c.args.id) _ (at-some c.in_ok-name.field-0 c.in-Some.name _ _ c.in-Some.is c.in_ok-name.ensures))

pub returns-clause-text : goal.returns-clause-text
returns-clause-text c = braces-is c.args.store.now c.requires.distinct c.len-count.ensures.canonical c.args.texts.now.bytes.items (get nat_eq c.args.texts.now.spans) c.args.id _ _ c.in_ok-text.text.items c.requires.id c.requires.form (left-texts c.args.store.now c.args.id c.args.texts.now.bytes.items (get nat_eq c.args.texts.now.spans) _ _ c.requires.form c.requires.options) (right-texts c.args.store.now c.args.id c.args.texts.now.bytes.items (get nat_eq c.args.texts.now.spans) _ _ c.requires.form c.requires.options) c.in_ok-text.ensures (at-none c.in_ok-name.field-0 _ _ c.in_default.is c.in_ok-name.ensures)

pub returns-then-limit-len-clause-refusal : goal.returns-then-limit-len-clause-refusal
returns-then-limit-len-clause-refusal c = (
  at-none c.in_ok-name.field-0 _ _ c.in_default.is c.in_ok-name.ensures,
  subst (λ z. c.args.limit < length z) (braces-is c.args.store.now c.requires.distinct c.len-count.ensures.canonical c.args.texts.now.bytes.items (get nat_eq c.args.texts.now.spans) c.args.id _ _ c.in_ok-text.text.items c.requires.id c.requires.form (left-texts c.args.store.now c.args.id c.args.texts.now.bytes.items (get nat_eq c.args.texts.now.spans) _ _ c.requires.form c.requires.options) (right-texts c.args.store.now c.args.id c.args.texts.now.bytes.items (get nat_eq c.args.texts.now.spans) _ _ c.requires.form c.requires.options) c.in_ok-text.ensures (at-none c.in_ok-name.field-0 _ _ c.in_default.is c.in_ok-name.ensures)) (omega (arith, c.if-limit-len.true, c.len.ensures)),
)
