use Rattle.std.proofs.Common.{get_or, take, ◌++◌, [], ◌∷◌, List, ℕ, sym, subst, append-nil}
use Rattle.std.proofs.lemmas.Bool.{both_ways}
use Rattle.short_games.specs.Tree.{tree_at}
use Rattle.game_store.proofs.EntryLaws.{pick-has}
use Rattle.game_canon.specs.inner.Sides.{AreBest, Covers}
use Rattle.game_canon.proofs.GameLaws.{none-list}
use Rattle.game_canon.proofs.SideLaws.{best-skip, best-push, one-later, NearUncovered}
use Rattle.game_canon.proofs.domination.take_in_all.Goals as goal

pub loop-id-init : goal.loop-id-init
loop-id-init c = record {
  known = c.requires.known;
  so_far = subst (λ (z : List ℕ). AreBest c.args.side c.args.games.now.store.now z c.args.best.now.items) (sym (append-nil c.args.best.now.items)) c.requires.best;
}

pub loop-id-preserved-then-not-branch : goal.loop-id-preserved-then-not-branch
loop-id-preserved-then-not-branch c = record {
  known = c.none_covers.ensures.known;
  so_far = subst (λ (z : List ℕ). AreBest c.args.side c.args.games.now.store.now z c.loop-id.best.items) (one-later c.args.best.now.items c.args.ids.now c.loop-id.id-index c.loop-id-test.true)
      (best-skip c.args.side c.args.games.now.store.now _ _ _
      (λ h. both_ways _ c.if-not-branch.true (c.in_ok-none_covers.ensures.answer.1 (subst (λ (z : List ℕ). NearUncovered c.args.side c.args.games.now.store.now z (tree_at c.args.games.now.store.now (get_or c.args.ids.now c.loop-id.id-index 0))) (sym c.deref.ensures) (λ j l. h _ (pick-has c.args.games.now.store.now c.loop-id.best.items j l)))))
      c.loop-id.invariant.so_far);
}

pub loop-id-preserved : goal.loop-id-preserved
loop-id-preserved c =
    let w = c.in_ok-take_in.ensures.with_top in record {
      known = c.take_in.ensures.known;
      so_far = subst (λ (z : List ℕ). AreBest c.args.side c.args.games.now.store.now z c.take_in.new.best.items)
          (one-later c.args.best.now.items c.args.ids.now c.loop-id.id-index c.loop-id-test.true)
          (subst (λ (z : List ℕ). AreBest c.args.side c.args.games.now.store.now
          ((c.args.best.now.items ++ take c.loop-id.id-index c.args.ids.now) ++ get_or c.args.ids.now c.loop-id.id-index 0 ∷ []) z) (sym w.2)
          (best-push c.args.side c.args.games.now.store.now _ c.loop-id.best.items _ _ (c.requires.ids _ c.loop-id-test.true)
          (none-list c.args.games.now.store.now c.loop-id.best.items (λ Z. Covers c.args.side (tree_at c.args.games.now.store.now (get_or c.args.ids.now c.loop-id.id-index 0)) Z)
          (subst (λ (z : List ℕ). NearUncovered c.args.side c.args.games.now.store.now z (tree_at c.args.games.now.store.now (get_or c.args.ids.now c.loop-id.id-index 0))) c.deref.ensures (c.in_ok-none_covers.ensures.answer.0 c.if-not-branch.false)))
          c.loop-id.invariant.so_far w.1));
    }
