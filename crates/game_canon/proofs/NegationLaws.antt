-- The negative of a canonical form has as many parts, and numbers of the same sizes.
use Rattle.std.proofs.Common.{◌≡◌, ℕ, zero, suc, ◌<◌, refl, subst, arith, List, [], ◌∷◌, length, get_or, neg_ℤ}
use Rattle.std.proofs.lemmas.Int.{ints}
use Rattle.short_games.specs.Tree.{Tree, node, none, neg, tree_at}
use Rattle.short_games.specs.TextOrder.{IsCanonicalTree, IsCanonicalFor}
use Rattle.short_games.specs.Parts.{IsPart, HasMoreParts}
use Rattle.game_canon.specs.declared.change.Change.TheVariants.{Negate}
use Rattle.game_canon.specs.Outcomes.{AreWithin}
use Rattle.short_games.proofs.OrderLaws.{le-trans}
use Rattle.game_canon.proofs.ChangeLaws.{target-back, target-same}
use Rattle.game_canon.proofs.NumberPartLaws.{numbers-out, parts-out}
use Rattle.short_games.proofs.ReductionLaws.{same-canonical}

-- a value for each number below n, in a list
pub chosen : {X : Type 0} (d : X) (P : ℕ → X → Type 0) (n : ℕ) → ((k : ℕ) → k < n → (x : X) × P k x)
    → (xs : List X) × (length xs ≡ n) × ((k : ℕ) → k < n → P k (get_or xs k d))
chosen d P zero f = ([], refl, λ k lt. absurd (omega (arith, lt)))
chosen {X} d P (suc n) f =
    let first = f 0 (omega arith) in
    let rest = chosen d (λ k x. P (suc k) x) n (λ k lt. f (suc k) (omega (arith, lt))) in
    (first.0 ∷ rest.0, omega (arith, rest.1), λ k lt. at first.0 rest.0 first.1 rest.2 k lt)
  where
    at : (x : X) (xs : List X) → P 0 x → ((k : ℕ) → k < n → P (suc k) (get_or xs k d)) → (k : ℕ) → k < suc n → P k (get_or (x ∷ xs) k d)
    at x xs p q zero lt = p
    at x xs p q (suc k) lt = q k (omega (arith, lt))

-- the form is the canonical form of the negative's negative
pub negative_back : (G C : Tree) → IsCanonicalTree G → IsCanonicalFor (neg G) C → IsCanonicalFor (neg C) G
negative_back G C g k =
    let same = target-same Negate (neg G) C (k.under, k.over) in
    let is = target-back Negate G in
    record {
      canonical = g;
      under = le-trans (neg C) (neg (neg G)) G same.1 is.0;
      over = le-trans G (neg (neg G)) (neg C) is.1 same.0;
    }

-- each part of the negative comes from a part of its own
pub more_parts : (G C : Tree) → IsCanonicalTree G → IsCanonicalFor (neg G) C → (n : ℕ) → HasMoreParts C n → HasMoreParts G n
more_parts G C g k n (Xs, are, more) =
    let from = chosen (node none none) (λ j P. IsPart G P × IsCanonicalFor (neg P) (tree_at Xs j)) (length Xs)
    (λ j lt. let p = are.each j lt in let r = parts-out Negate C (tree_at Xs j) G p.0 p.1 g k in (r.0, (r.1, r.3))) in (
      from.0,
      record {
        each = λ j lt. (from.2 j (omega (arith, lt, from.1))).0;
        different = λ i j lt lt' e.
            let a = (from.2 i (omega (arith, lt, from.1))).1 in
            let b = (from.2 j (omega (arith, lt', from.1))).1 in
            are.different i j (omega (arith, lt, from.1)) (omega (arith, lt', from.1))
            (same-canonical (neg (tree_at from.0 j)) (tree_at Xs i) (tree_at Xs j) (subst (λ P. IsCanonicalFor (neg P) (tree_at Xs i)) e a) b);
      },
      omega (arith, more, from.1),
    )

pub within_negative : (G C : Tree) → IsCanonicalTree G → IsCanonicalFor (neg G) C → (b : ℕ) → AreWithin b G → AreWithin b C
within_negative G C g k b h x is =
    let least = h (neg_ℤ x) (numbers-out Negate G C g k x is) in
    omega (arith, ints, least)
