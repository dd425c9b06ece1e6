use Rattle.std.proofs.Common.{get_or, take, ◌++◌, [], ◌∷◌, List, ℕ, sym, subst}
use Rattle.std.proofs.lemmas.List.{take_more}
use Rattle.std.proofs.lemmas.Bool.{both_ways}
use Rattle.game_canon.specs.inner.Sides.{IsWithout}
use Rattle.game_canon.proofs.SideLaws.{without-skip, without-push}
use Rattle.game_canon.proofs.domination.put_uncovered.Goals as goal

pub loop-id-preserved-then-branch : goal.loop-id-preserved-then-branch
loop-id-preserved-then-branch c = record {
  known = c.is_covered.ensures.known;
  so_far = subst (λ (z : List ℕ). IsWithout c.args.side c.args.games.now.store.now z c.args.top c.loop-id.left.items) (sym (take_more c.args.ids.now c.loop-id.id-index 0 c.loop-id-test.true))
      (without-skip c.args.side c.args.games.now.store.now _ _ c.args.top _ (c.in_ok-is_covered.ensures.answer.0 c.if-branch.true) c.loop-id.invariant.so_far);
}

pub loop-id-preserved : goal.loop-id-preserved
loop-id-preserved c = record {
  known = c.is_covered.ensures.known;
  so_far = subst (λ (z : List ℕ). IsWithout c.args.side c.args.games.now.store.now z c.args.top c.push.new.self.items) (sym (take_more c.args.ids.now c.loop-id.id-index 0 c.loop-id-test.true))
      (subst (λ (z : List ℕ). IsWithout c.args.side c.args.games.now.store.now (take c.loop-id.id-index c.args.ids.now ++ get_or c.args.ids.now c.loop-id.id-index 0 ∷ []) c.args.top z) (sym c.in_ok-push.ensures.ok)
      (without-push c.args.side c.args.games.now.store.now _ _ c.args.top _ (c.requires.ids _ c.loop-id-test.true) (λ p. both_ways _ c.if-branch.false (c.in_ok-is_covered.ensures.answer.1 p)) c.loop-id.invariant.so_far));
}
