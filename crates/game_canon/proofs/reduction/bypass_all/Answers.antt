use Rattle.std.proofs.Common.{List, ℕ, ◌∙◌, sym, subst}
use Rattle.game_canon.specs.inner.Sides.{IsStart}
use Rattle.game_canon.proofs.reduction.bypass_all.Goals as goal

pub bypass_lists-requires-clause-form : goal.bypass_lists-requires-clause-form
bypass_lists-requires-clause-form c = let f = c.requires.form in (f.0, f.1, f.2 ∙ sym c.in_ok-lists.ensures.left, f.3 ∙ sym c.in_ok-lists.ensures.right)

pub bypass_lists-requires-clause-start : goal.bypass_lists-requires-clause-start
bypass_lists-requires-clause-start c = subst (λ (z : List ℕ). IsStart c.args.games.now.store.now z c.in_ok-lists.lists.right.items) (sym c.in_ok-lists.ensures.left)
    (subst (λ (z : List ℕ). IsStart c.args.games.now.store.now c.args.left.now z) (sym c.in_ok-lists.ensures.right) c.requires.start)
