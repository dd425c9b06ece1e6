use Rattle.std.proofs.Common.{inl, inr}
use Rattle.short_games.specs.Tree.{Has, tree_at}
use Rattle.game_store.specs.Meaning.{pick}
use Rattle.short_games.specs.Parts.{IsOption}
use Rattle.game_canon.proofs.GameLaws.{has-left, left-has, has-right, right-has}
use Rattle.game_canon.proofs.PartLaws.{grown-number, gathered-both}
use Rattle.game_canon.proofs.followers.add_options.Goals as goal

pub returns-in-Number : goal.returns-in-Number
returns-in-Number c = grown-number c.args.store.now c.args.found.now.keys (tree_at c.args.store.now c.args.id) (60, c.in-Number.field-0, c.in-Number.ensures.form)

pub returns-in_ok-add_parts-in-Options-2 : goal.returns-in_ok-add_parts-in-Options-2
returns-in_ok-add_parts-in-Options-2 c =
    let o = c.in-Options.ensures.form in
    gathered-both c.args.store.now _ (Has (pick c.args.store.now c.in-Options.left.now))
    (Has (pick c.args.store.now c.in-Options.right.now)) (IsOption (tree_at c.args.store.now c.args.id)) _ _ _
    c.in_ok-add_parts-in-Options.ensures c.in_ok-add_parts-in-Options-2.ensures
    (λ X h. inl (left-has c.args.store.now c.args.id _ _ o X h)) (λ X h. inr (right-has c.args.store.now c.args.id _ _ o X h))
    (λ X h. elim h [ inl l ↦ inl (has-left c.args.store.now c.args.id _ _ o X l) | inr r ↦ inr (has-right c.args.store.now c.args.id _ _ o X r) ])
