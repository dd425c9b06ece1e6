use Rattle.std.proofs.Common.{get_or, take, ◌++◌, [], ◌∷◌, List, ℕ, sym, subst}
use Rattle.std.proofs.lemmas.Bool.{both_ways}
use Rattle.std.proofs.lemmas.List.{take_more}
use Rattle.game_canon.specs.inner.Sides.{IsUncovered}
use Rattle.game_canon.proofs.GroupLaws.{uncovered-push, uncovered-skip}
use Rattle.game_canon.proofs.groups.uncovered.Goals as goal

pub loop-id-preserved-then-not-branch : goal.loop-id-preserved-then-not-branch
loop-id-preserved-then-not-branch c = record {
  known = c.none_covers.ensures.known;
  so_far = subst (λ (z : List ℕ). IsUncovered c.args.side c.args.games.now.store.now z c.args.others.now c.loop-id.left.items) (sym (take_more c.args.ids.now c.loop-id.id-index 0 c.loop-id-test.true))
      (uncovered-skip c.args.side c.args.games.now.store.now _ c.args.others.now _ _ (λ h. both_ways _ c.if-not-branch.true (c.in_ok-none_covers.ensures.answer.1 h)) c.loop-id.invariant.so_far);
}

pub loop-id-preserved : goal.loop-id-preserved
loop-id-preserved c = record {
  known = c.none_covers.ensures.known;
  so_far = subst (λ (z : List ℕ). IsUncovered c.args.side c.args.games.now.store.now z c.args.others.now c.push.new.self.items) (sym (take_more c.args.ids.now c.loop-id.id-index 0 c.loop-id-test.true))
      (subst (λ (z : List ℕ). IsUncovered c.args.side c.args.games.now.store.now (take c.loop-id.id-index c.args.ids.now ++ get_or c.args.ids.now c.loop-id.id-index 0 ∷ []) c.args.others.now z) (sym c.in_ok-push.ensures.ok)
      (uncovered-push c.args.side c.args.games.now.store.now _ c.args.others.now _ _ (c.requires.ids _ c.loop-id-test.true) (c.in_ok-none_covers.ensures.answer.0 c.if-not-branch.false) c.loop-id.invariant.so_far));
}
