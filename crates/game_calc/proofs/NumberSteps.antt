-- A step with a number: each place of the form has its sum with the number among the followers of the whole sum.
use Rattle.std.proofs.Common.{ℕ, ◌<◌, ◌≤◌, ◌≡◌, List, inl, inr, arith, refl, sym, subst, ℤ}
use Rattle.short_games.specs.Tree.{Tree, tree_at}
use Rattle.short_games.specs.Sum.{◌+ᵍ◌}
use Rattle.short_games.specs.Number.{IsNumberTree, number_tree}
use Rattle.short_games.specs.TextOrder.{IsCanonicalTree, IsCanonicalFor}
use Rattle.short_games.specs.Parts.{IsFollower, IsOption, IsReached, HasParts, HasMoreParts}
use Rattle.short_games.specs.Parts.IsFollower.{itself, further}
use Rattle.short_games.proofs.CountLaws.{no-more}
use Rattle.short_games.proofs.PartLaws.{number-follower, follower-trans, follower-more}
use Rattle.short_games.proofs.ReductionLaws.{same-canonical}
use Rattle.short_games.proofs.SumLaws.{plus-comm}
use Rattle.game_canon.specs.Changes.{HasNumberPastBounds, IsSumRefusal}
use Rattle.game_canon.specs.Outcomes.{IsCanonicalId}
use Rattle.game_canon.specs.declared.errors.FormError.{FormError}
use Rattle.game_canon.specs.declared.errors.FormError.TheVariants.{Parts, Bounds, Memory}
use Rattle.game_canon.proofs.NumberPartLaws.{sum-option, sum-number}
use Rattle.game_calc.specs.Steps.{IsPlace, IsOutOfLimits, IsStepRefusal, IsTooLarge}
use Rattle.game_calc.proofs.ReturnSteps.{few-follower}
use Rattle.game_calc.proofs.SumSteps.{canonical-as, id-as}

-- what the number makes of a follower that is no number
follower-in : (x : ℤ) (G X C : Tree) → IsFollower G X → (IsNumberTree X → ⊥) → IsCanonicalTree G → IsCanonicalFor (G +ᵍ number_tree x) C → (Y : Tree) × IsFollower C Y × IsCanonicalTree X × IsCanonicalFor (X +ᵍ number_tree x) Y
follower-in x _ _ C (itself G) other g k = (C, itself C, g, k)
follower-in x _ _ C (further G H X o f) other g k =
    let r = sum-option x G C H g (λ n. other (number-follower G X (further G H X o f) n)) k o in
    let s = follower-in x H X r.0 f other r.2 r.3 in
    (s.0, further C r.0 s.0 r.1 s.1, s.2, s.3)

-- what the number makes of a place
place-image : (x : ℤ) (G X C : Tree) → IsCanonicalTree G → IsCanonicalFor (G +ᵍ number_tree x) C → IsPlace G X
    → (Y : Tree) × IsCanonicalFor (X +ᵍ number_tree x) Y × IsFollower C Y × ((N : Tree) → IsNumberTree N → IsReached Y N → IsReached C N)
place-image x G X C g k (inl e) = (C, subst (λ t. IsCanonicalFor (t +ᵍ number_tree x) C) (sym e) k, itself C, λ N n r. r)
place-image x G X C g k (inr (inl part)) =
    let r = follower-in x G X C part.0 part.1 g k in (
      r.0,
      r.3,
      r.1,
      λ N n q. elim q [
        | inl e ↦ absurd (part.1 (sum-number x X r.0 r.2 r.3 (subst IsNumberTree e n)))
        | inr (P, p, o) ↦ inr (P, (follower-trans C r.0 P r.1 p.0, p.1), o)
      ],
    )
place-image x G X C g k (inr (inr (P, part, o, m))) =
    let r = follower-in x G P C part.0 part.1 g k in
    let s = sum-option x P r.0 X r.2 part.1 r.3 o in
    let f = follower-more C r.0 s.0 r.1 s.1 in (
      s.0,
      s.3,
      f,
      λ N n q. elim q [
        | inl e ↦ inr (r.0, (r.1, λ b. part.1 (sum-number x P r.0 r.2 r.3 b)), subst (IsOption r.0) (sym e) s.1)
        | inr (Q, p, h) ↦ inr (Q, (follower-trans C s.0 Q f p.0, p.1), h)
      ],
    )

-- a number's one place is the number
number-place : (x : ℤ) (Y : Tree) → IsPlace (number_tree x) Y → Y ≡ number_tree x
number-place x Y (inl e) = e
number-place x Y (inr (inl part)) = absurd (part.1 (number-follower (number_tree x) Y part.0 (60, x, refl)))
number-place x Y (inr (inr (P, part, o, n))) = absurd (part.1 (number-follower (number_tree x) P part.0 (60, x, refl)))

pub parts-few : (C : Tree) (n limit : ℕ) → HasParts C n → n ≤ limit → HasMoreParts C limit → ⊥
parts-few C n limit (Ys, are, all, len) l (Xs, more, many) = let m = no-more Xs Ys more.different (λ j k. all (tree_at Xs j) (more.each j k)) in omega (arith, m, many, len, l)

pub within-number : (Us : List Tree) (G : Tree) (x : ℤ) (id limit : ℕ) → IsCanonicalTree G → IsCanonicalId Us (G +ᵍ number_tree x) id → (HasMoreParts (tree_at Us id) limit → ⊥) → (HasNumberPastBounds (tree_at Us id) → ⊥) → IsOutOfLimits limit G (number_tree x) → ⊥
within-number Us G x id limit g k few bounds (X, Y, first, second, large) =
    let C = tree_at Us id in
    let r = place-image x G X C g k.1 first in
    elim (large r.0 (subst (λ t. IsCanonicalFor (X +ᵍ t) r.0) (sym (number-place x Y second)) r.1)) [
      | inl many ↦ few-follower C r.0 limit r.2 few many
      | inr (N, n, reached, past) ↦ bounds (N, n, r.3 N n reached, past)
    ]

-- why there is no such sum
pub many-refused : (Us : List Tree) (G : Tree) (x : ℤ) (id n limit : ℕ) → IsCanonicalId Us (G +ᵍ number_tree x) id → HasParts (tree_at Us id) n → limit < n → IsOutOfLimits limit G (number_tree x)
many-refused Us G x id n limit k (Ys, are, all, len) l = (G, number_tree x, inl refl, inl refl, λ C c. inl (subst (λ t. HasMoreParts t limit) (same-canonical (G +ᵍ number_tree x) (tree_at Us id) C k.1 c) (Ys, are, omega (arith, l, len))))

pub number-step-refused : (G : Tree) (x : ℤ) (limit : ℕ) (e : FormError) → IsSumRefusal (G +ᵍ number_tree x) e → IsStepRefusal limit G (number_tree x) e
number-step-refused G x limit Parts h = absurd h
number-step-refused G x limit Bounds h = (G, number_tree x, inl refl, inl refl, λ C c. inr (h C c))
number-step-refused G x limit (Memory cause) h = tt

-- the other way round
large-turned : (limit : ℕ) (X Y : Tree) → IsTooLarge limit (X +ᵍ Y) → IsTooLarge limit (Y +ᵍ X)
large-turned limit X Y large = λ C c. large C (canonical-as (Y +ᵍ X) (X +ᵍ Y) C (plus-comm Y X, plus-comm X Y) c)

pub out-turned : (limit : ℕ) (G H : Tree) → IsOutOfLimits limit G H → IsOutOfLimits limit H G
out-turned limit G H (X, Y, first, second, large) = (Y, X, second, first, large-turned limit X Y large)

pub refusal-turned : (limit : ℕ) (G H : Tree) (e : FormError) → IsStepRefusal limit G H e → IsStepRefusal limit H G e
refusal-turned limit G H Parts h = out-turned limit G H h
refusal-turned limit G H Bounds h = out-turned limit G H h
refusal-turned limit G H (Memory cause) h = tt

pub id-turned : (Us : List Tree) (G H : Tree) (id : ℕ) → IsCanonicalId Us (G +ᵍ H) id → IsCanonicalId Us (H +ᵍ G) id
id-turned Us G H id k = id-as Us (H +ᵍ G) (G +ᵍ H) id (plus-comm H G, plus-comm G H) k
