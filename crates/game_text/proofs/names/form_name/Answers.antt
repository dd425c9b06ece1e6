use Rattle.std.proofs.Common.{◌∙◌, ap, sym, refl, Some, nat_eq}
use Rattle.std.proofs.lemmas.Bool.{true≢false}
use Rattle.indexmap.specs.IndexMap.{get}
use Rattle.short_games.specs.Tree.{tree_at}
use Rattle.game_text.proofs.FoundNameLaws.{nimber-named}
use Rattle.game_text.proofs.NimberIdLaws.{among-count, is-pair, pair-named, pair-unnamed, many-unnamed, on-found}
use Rattle.game_text.proofs.WritingSteps.{left-texts, right-texts}
use Rattle.game_text.proofs.names.form_name.Goals as goal
use Rattle.game_text.proofs.names.form_name.Goals.{else-count-eq1-via-then-count-eq1+else-right-eq1, else-count-eq1-via-else-count-eq1}

pub returns-then-is_nimber : goal.returns-then-is_nimber
returns-then-is_nimber c =
    let r = c.if-is_nimber.ensures.0 refl in
    nimber-named (tree_at c.args.store.now c.args.id) c.requires.form.no_number _ (ap (λ i. tree_at c.args.store.now i) (sym r.1) ∙ c.requires.nimbers.each _ r.0) ∙ ap (λ z. Some z) (sym c.in_ok-nimber_text.ensures)

pub pair_name-requires-clause-left_text : goal.pair_name-requires-clause-left_text
pair_name-requires-clause-left_text c = left-texts c.args.store.now c.args.id c.args.texts.now.bytes.items (get nat_eq c.args.texts.now.spans) _ _ c.requires.form c.requires.options 0 c.requires.form.left_some

pub pair_name-requires-clause-right_text : goal.pair_name-requires-clause-right_text
pair_name-requires-clause-right_text c = right-texts c.args.store.now c.args.id c.args.texts.now.bytes.items (get nat_eq c.args.texts.now.spans) _ _ c.requires.form c.requires.options 0 c.requires.form.right_some

pub returns-then-right-eq1 : goal.returns-then-right-eq1
returns-then-right-eq1 c = on-found c.pair_name.result _ _ _ _
    (pair-unnamed (tree_at c.args.store.now c.args.id) _ _ c.requires.form.no_number (λ n q. true≢false (sym (c.if-is_nimber.ensures.1 (among-count c.args.store.now c.args.nimbers.now c.requires.nimbers c.requires.distinct c.args.id _ _ c.requires.id c.requires.form n c.requires.among q))))
    (is-pair c.args.store.now c.args.id _ _ c.requires.form c.if-count-eq1.true c.if-right-eq1.true))
    (λ v h. pair-named (tree_at c.args.store.now c.args.id) _ _ c.requires.form.no_number (λ n q. true≢false (sym (c.if-is_nimber.ensures.1 (among-count c.args.store.now c.args.nimbers.now c.requires.nimbers c.requires.distinct c.args.id _ _ c.requires.id c.requires.form n c.requires.among q))))
    (is-pair c.args.store.now c.args.id _ _ c.requires.form c.if-count-eq1.true c.if-right-eq1.true) v.items h) c.pair_name.ensures

pub returns : goal.returns
returns c = many-unnamed c.args.store.now c.args.id _ _ c.requires.distinct c.requires.id c.requires.form
    (λ n q. true≢false (sym (c.if-is_nimber.ensures.1 (among-count c.args.store.now c.args.nimbers.now c.requires.nimbers c.requires.distinct c.args.id _ _ c.requires.id c.requires.form n c.requires.among q))))
    (λ p q. elim c.else-count-eq1.branch [
      | else-count-eq1-via-then-count-eq1+else-right-eq1 w ↦ w.if-right-eq1.false q
      | else-count-eq1-via-else-count-eq1 w ↦ w.if-count-eq1.false p
    ])
