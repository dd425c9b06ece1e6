use Rattle.std.proofs.lemmas.Bool.{MatchBool-at_true as when_true, MatchBool-at_false as when_false}
use Rattle.std.proofs.Common.{List, ℕ, ◌+◌, ◌<◌, arith, sym, subst, refl}
use Rattle.short_games.specs.Tree.{sizes}
use Rattle.game_store.specs.Meaning.{pick}
use Rattle.game_canon.specs.inner.Games.{beside}
use Rattle.game_canon.specs.inner.Sides.{IsReducedForm}
use Rattle.game_canon.proofs.ReductionLaws.{IsReducing, reducing-left, reducing-right, reducing-end}
use Rattle.game_canon.proofs.CanonicalFormLaws.{reducing-start}
use Rattle.game_canon.proofs.reduction.bypass_lists.Goals as goal

pub rounds-init : goal.rounds-init
rounds-init c = let f = c.requires.form in record {
  known = c.requires.known;
  so_far = reducing-start c.args.games.now.store.now c.args.games.now.unstored f.0 c.args.left.now.items c.args.right.now.items _ _ f.1 f.2 f.3 refl refl c.requires.start;
}

pub bypass-requires-clause-known : goal.bypass-requires-clause-known
bypass-requires-clause-known c = c.rounds.invariant.known

pub bypass-requires-clause-ids : goal.bypass-requires-clause-ids
bypass-requires-clause-ids c = c.rounds.invariant.so_far.left_ids

pub bypass-requires-clause-free : goal.bypass-requires-clause-free
bypass-requires-clause-free c = c.rounds.invariant.so_far.left_free

pub rounds-smaller-then-branch : goal.rounds-smaller-then-branch
rounds-smaller-then-branch c = let s = when_true _ _ c.if-branch.true c.in_ok-bypass.ensures.smaller in omega (arith, s.smaller)

pub rounds-preserved-then-branch : goal.rounds-preserved-then-branch
rounds-preserved-then-branch c = record {
  known = c.bypass.ensures.known;
  so_far = reducing-left c.args.games.now.store.now _ _ _ _ c.rounds.invariant.so_far (when_true _ _ c.if-branch.true c.in_ok-bypass.ensures.smaller);
}

pub bypass-requires-in-rounds-clause-known : goal.bypass-requires-in-rounds-clause-known
bypass-requires-in-rounds-clause-known c = c.bypass.ensures.known

pub bypass-requires-in-rounds-clause-ids : goal.bypass-requires-in-rounds-clause-ids
bypass-requires-in-rounds-clause-ids c = c.rounds.invariant.so_far.right_ids

pub bypass-requires-in-rounds-clause-free : goal.bypass-requires-in-rounds-clause-free
bypass-requires-in-rounds-clause-free c = c.rounds.invariant.so_far.right_free

pub returns-then-not-branch : goal.returns-then-not-branch
returns-then-not-branch c =
    let a = when_false _ _ c.if-branch.false c.in_ok-bypass.ensures.done in
    let b = when_false _ _ c.if-not-branch.true c.in_ok-bypass-2.ensures.done in
    subst (λ (z : List ℕ). IsReducedForm c.args.games.now.store.now (beside c.args.games.now) z c.bypass-in-rounds.new.ids.items) (sym a.1)
    (subst (λ (z : List ℕ). IsReducedForm c.args.games.now.store.now (beside c.args.games.now) c.rounds.left.items z) (sym b.1)
    (reducing-end c.args.games.now.store.now _ _ _ c.rounds.invariant.so_far a.0 b.0))

pub rounds-smaller : goal.rounds-smaller
rounds-smaller c =
    let a = when_false _ _ c.if-branch.false c.in_ok-bypass.ensures.done in
    let b = when_true _ _ c.if-not-branch.false c.in_ok-bypass-2.ensures.smaller in
    subst (λ (z : List ℕ). sizes (pick c.args.games.now.store.now z) + sizes (pick c.args.games.now.store.now c.bypass-in-rounds.new.ids.items) < sizes (pick c.args.games.now.store.now c.rounds.left.items) + sizes (pick c.args.games.now.store.now c.rounds.right.items)) (sym a.1) (omega (arith, b.smaller))

pub rounds-preserved : goal.rounds-preserved
rounds-preserved c =
    let a = when_false _ _ c.if-branch.false c.in_ok-bypass.ensures.done in
    record {
      known = c.bypass-in-rounds.ensures.known;
      so_far = subst (λ (z : List ℕ). IsReducing c.args.games.now.store.now (beside c.args.games.now) z c.bypass-in-rounds.new.ids.items) (sym a.1)
          (reducing-right c.args.games.now.store.now _ _ _ _ c.rounds.invariant.so_far (when_true _ _ c.if-not-branch.false c.in_ok-bypass-2.ensures.smaller));
    }
