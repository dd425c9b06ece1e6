use Rattle.std.proofs.Common.{List, ℕ, ◌<◌, ◌∙◌, get_or, length, refl, sym, subst}
use Rattle.game_canon.specs.inner.Games.{beside}
use Rattle.game_canon.specs.inner.Sides.{IsDone, IsReversal, IsSmaller}
use Rattle.game_canon.proofs.reversal.bypass.Goals as goal

pub bypassed-requires-clause-known : goal.bypassed-requires-clause-known
bypassed-requires-clause-known c = c.reversible.ensures.known

pub bypassed-requires-clause-place : goal.bypassed-requires-clause-place
bypassed-requires-clause-place c =
    let s = rw c.in-Some.is at c.in_ok-place.ensures.found in
    subst (λ (z : List ℕ). c.in-Some.place < length z) (c.deref.ensures ∙ sym c.deref-in-Some.ensures) (rw c.in-Some.place-is s.0)

pub bypassed-requires-clause-reversal : goal.bypassed-requires-clause-reversal
bypassed-requires-clause-reversal c =
    let s = rw c.in-Some.is at c.in_ok-place.ensures.found in
    subst (λ (z : List ℕ). IsReversal c.args.side c.args.games.now.store.now (beside c.args.games.now) (get_or z c.in-Some.place 0) c.in-Some.answer) (c.deref.ensures ∙ sym c.deref-in-Some.ensures)
    (rw (c.in-Some.place-is, c.in-Some.answer-is) s.1)

pub returns-in_ok-best-in-Some-clause-smaller : goal.returns-in_ok-best-in-Some-clause-smaller
returns-in_ok-best-in-Some-clause-smaller c = subst (λ (z : List ℕ). IsSmaller c.args.side c.args.games.now.store.now (beside c.args.games.now) c.args.ids.now.items z) (sym c.put.ensures)
    (subst (λ (z : List ℕ). IsSmaller c.args.side c.args.games.now.store.now (beside c.args.games.now) z c.in_ok-best-in-Some.best.items) c.deref-in-Some.ensures c.in_ok-best-in-Some.ensures.smaller)

pub returns-in-None-clause-done : goal.returns-in-None-clause-done
returns-in-None-clause-done c = (subst (λ (z : List ℕ). IsDone c.args.side c.args.games.now.store.now (beside c.args.games.now) z) c.deref.ensures (rw c.in-None.is at c.in_ok-place.ensures.found), refl)
