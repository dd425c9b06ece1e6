-- The places of a form among the ids that it is made of, and what the whole table says of a step.
use Rattle.std.proofs.Common.{ℕ, ◌<◌, ◌≡◌, List, length, get_or, inl, inr, sym, subst, ◌∙◌, ap, Some}
use Rattle.std.specs.Prelude.{Option}
use Rattle.short_games.specs.Tree.{Tree, tree_at, AreDistinct}
use Rattle.short_games.specs.Sum.{◌+ᵍ◌}
use Rattle.short_games.specs.Number.{IsNumberTree}
use Rattle.short_games.specs.TextOrder.{IsCanonicalFor}
use Rattle.game_store.specs.Meaning.{Extends, Wanted}
use Rattle.game_store.specs.Meaning.Wanted.{number, options}
use Rattle.game_store.specs.Forms.{HaveForms, IsMeaning}
use Rattle.short_games.specs.Parts.{IsFollower, IsOption, IsReached}
use Rattle.short_games.specs.Parts.IsFollower.{itself, further}
use Rattle.short_games.proofs.PartLaws.{number-follower, follower-more}
use Rattle.game_canon.specs.declared.errors.FormError.{FormError}
use Rattle.game_canon.specs.declared.errors.FormError.TheVariants.{Parts, Bounds, Memory}
use Rattle.game_canon.specs.Followers.{IsIn}
use Rattle.game_canon.specs.Outcomes.{IsCanonicalId}
use Rattle.game_canon.specs.Reachable.{AreReachable}
use Rattle.game_canon.proofs.NumberPartLaws.{within-bounds}
use Rattle.game_calc.specs.Steps.{IsPlace, IsOutOfLimits, IsStepRefusal}
use Rattle.game_calc.specs.inner.Steps.{IsPairRefusal}
use Rattle.game_calc.specs.inner.Table.{AreNotedSumsRight, AreRowsKnown}

-- what a form is made of are its places
place-of : (Ts : List Tree) → HaveForms Ts → (G : Tree) (id : ℕ) → id < length Ts → IsReached G (tree_at Ts id) → IsPlace G (tree_at Ts id)
place-of Ts forms G id l (inl e) = inl e
place-of Ts forms G id l (inr (P, part, o)) = at (forms id l).0 (forms id l).1
  where
    at : (w : Wanted) → IsMeaning Ts id w → IsPlace G (tree_at Ts id)
    at (number x) m = inr (inr (P, part, o, (60, x, m)))
    at (options ls rs) m = inr (inl (follower-more G P (tree_at Ts id) part.0 o, m.no_number))

-- all places are among the ids
module _ (Ts : List Tree) (G : Tree) (is : List ℕ) (all : AreReachable Ts G is) where
  part-in : (H X : Tree) → IsFollower H X → (IsNumberTree X → ⊥) → IsIn Ts is H → IsIn Ts is X
  part-in _ _ (itself H) other there = there
  part-in _ _ (further H K X o f) other there = part-in K X f other (all.closed there.0 there.1 K (
    λ n. other (number-follower H X (further H K X o f) (subst IsNumberTree (sym there.2) n)),
    subst (λ t. IsOption t K) there.2 o,
  ))

  pub place-in : (X : Tree) → IsPlace G X → IsIn Ts is X
  place-in X (inl e) = (all.root.0, all.root.1, e ∙ all.root.2)
  place-in X (inr (inl part)) = part-in G X part.0 part.1 all.root
  place-in X (inr (inr (P, part, o, n))) =
      let p = part-in G P part.0 part.1 all.root in
      all.closed p.0 p.1 X (λ m. part.1 (subst IsNumberTree (sym p.2) m), subst (λ t. IsOption t X) p.2 o)

-- the sum of the two forms is noted
pub root-known : (Ts : List Tree) (a b : ℕ) (note : ℕ → ℕ → Option ℕ) (is js : List ℕ) → AreDistinct Ts → a < length Ts → b < length Ts → AreReachable Ts (tree_at Ts a) is → AreReachable Ts (tree_at Ts b) js
    → AreRowsKnown note is js (length is) → (k : ℕ) × (note a b ≡ Some k)
root-known Ts a b note is js distinct first second p q rows =
    let i = p.root in
    let j = q.root in
    let e : get_or is i.0 0 ≡ a = distinct (get_or is i.0 0) a (p.ids i.0 i.1) first (sym i.2) in
    let f : get_or js j.0 0 ≡ b = distinct (get_or js j.0 0) b (q.ids j.0 j.1) second (sym j.2) in
    let r = rows i.0 i.1 i.1 j.0 j.1 in
    (r.0, subst (λ z. note a z ≡ Some r.0) f (subst (λ z. note z (get_or js j.0 0) ≡ Some r.0) e r.1))

pub root-sum : (Ts Us : List Tree) (limit a b k : ℕ) (note : ℕ → ℕ → Option ℕ) → Extends Ts Us → a < length Ts → b < length Ts → AreNotedSumsRight Us limit note → note a b ≡ Some k → IsCanonicalId Us (tree_at Ts a +ᵍ tree_at Ts b) k
root-sum Ts Us limit a b k note x first second right e =
    subst (λ t. IsCanonicalId Us t k) (ap (λ t. t +ᵍ tree_at Us b) (x.same a first) ∙ ap (λ t. tree_at Ts a +ᵍ t) (x.same b second)) (right a b k e).sum

-- where each sum was made, the step is within the limits
pub all-within : (Ts Us : List Tree) (limit : ℕ) (G H : Tree) (note : ℕ → ℕ → Option ℕ) (is js : List ℕ) → Extends Ts Us → HaveForms Us → AreReachable Ts G is → AreReachable Ts H js → AreRowsKnown note is js (length is)
    → AreNotedSumsRight Us limit note → IsOutOfLimits limit G H → ⊥
all-within Ts Us limit G H note is js x forms p q rows right (X, Y, first, second, large) =
    let i = place-in Ts G is p X first in
    let j = place-in Ts H js q Y second in
    let a = get_or is i.0 0 in
    let b = get_or js j.0 0 in
    let r = rows i.0 i.1 i.1 j.0 j.1 in
    let same : (tree_at Us a +ᵍ tree_at Us b) ≡ (X +ᵍ Y) =
    ap (λ t. t +ᵍ tree_at Us b) (x.same a (p.ids i.0 i.1) ∙ sym i.2) ∙ ap (λ t. X +ᵍ t) (x.same b (q.ids j.0 j.1) ∙ sym j.2) in
    let s = right a b r.0 r.1 in
    elim (large (tree_at Us r.0) (subst (λ t. IsCanonicalFor t (tree_at Us r.0)) same s.sum.1)) [
      | inl many ↦ s.few many
      | inr past ↦ within-bounds Us forms r.0 s.sum.0 past
    ]

-- one that wasn't made puts it out of limits
pub one-refused : (Ts : List Tree) (limit : ℕ) (G H : Tree) (is js : List ℕ) (e : FormError) → HaveForms Ts → AreReachable Ts G is → AreReachable Ts H js
    → (i j : ℕ) × (i < length is) × (j < length js) × IsPairRefusal (tree_at Ts (get_or is i 0) +ᵍ tree_at Ts (get_or js j 0)) limit e → IsStepRefusal limit G H e
one-refused Ts limit G H is js e forms p q (i, j, k, l, r) = at e r
  where
    first : IsPlace G (tree_at Ts (get_or is i 0))
    first = place-of Ts forms G (get_or is i 0) (p.ids i k) (p.reached i k)

    second : IsPlace H (tree_at Ts (get_or js j 0))
    second = place-of Ts forms H (get_or js j 0) (q.ids j l) (q.reached j l)

    at : (e : FormError) → IsPairRefusal (tree_at Ts (get_or is i 0) +ᵍ tree_at Ts (get_or js j 0)) limit e → IsStepRefusal limit G H e
    at Parts r = (_, _, first, second, λ C c. inl (r C c))
    at Bounds r = (_, _, first, second, λ C c. inr (r C c))
    at (Memory cause) r = tt
