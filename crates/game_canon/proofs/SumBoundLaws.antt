-- How the order of sums of two games follows from floors and ceilings.
use Rattle.std.proofs.Common.{List, inl, inr, arith, subst, ℤ, ◌+ℤ◌, ◌≤ℤ◌}
use Rattle.std.proofs.lemmas.Int.{ints, by_lt_z}
use Rattle.short_games.specs.Tree.{Tree, tree_at}
use Rattle.short_games.specs.Order.{◌≤ᵍ◌}
use Rattle.short_games.specs.Sum.{◌+ᵍ◌}
use Rattle.short_games.specs.Number.{num}
use Rattle.short_games.specs.Threshold.{IsFloor, IsCeiling}
use Rattle.game_canon.specs.declared.sums.SumPair.{SumPair}
use Rattle.game_canon.specs.SumComparisons.{IsSumWithin}
use Rattle.game_canon.specs.inner.SumComparisons.{AreSameSums, AreFloors, AreCeilings, AreNumbers}
use Rattle.short_games.proofs.OrderLaws.{le-refl, le-trans}
use Rattle.short_games.proofs.SumLaws.{plus-le_both, plus-comm}
use Rattle.short_games.proofs.NumberLaws.{num-le, num-lt, num-plus_le, num-le_plus}
use Rattle.short_games.proofs.ThresholdLaws.{half-cell}
use Rattle.game_canon.proofs.ComparisonLaws.{level}

over-floor : (G : Tree) (k : ℤ) → IsFloor 60 G k → num 61 k ≤ᵍ G
over-floor G k f = (f 61 k k (half-cell 60 k)).1 (omega (arith, ints))

under-ceiling : (G : Tree) (k : ℤ) → IsCeiling 60 G k → G ≤ᵍ num 61 k
under-ceiling G k f = (f 61 k k (half-cell 60 k)).1 (omega (arith, ints))

module _ (A B C D : Tree) (a b c d : ℤ) where
  sums-within : IsCeiling 60 A a → IsCeiling 60 B b → IsFloor 60 C c → IsFloor 60 D d → (a +ℤ b) ≤ℤ (c +ℤ d) → A +ᵍ B ≤ᵍ C +ᵍ D
  sums-within p q r s l = le-trans _ (num 61 a +ᵍ num 61 b) _ (plus-le_both A (num 61 a) B (num 61 b) (under-ceiling A a p) (under-ceiling B b q))
      (le-trans _ (num 61 (a +ℤ b)) _ (num-plus_le 61 a b)
      (le-trans _ (num 61 (c +ℤ d)) _ (num-le 61 (a +ℤ b) (c +ℤ d) l)
      (le-trans _ (num 61 c +ᵍ num 61 d) _ (num-le_plus 61 c d) (plus-le_both (num 61 c) C (num 61 d) D (over-floor C c r) (over-floor D d s)))))

  floors-within : IsFloor 60 A a → IsFloor 60 B b → IsCeiling 60 C c → IsCeiling 60 D d → A +ᵍ B ≤ᵍ C +ᵍ D → (a +ℤ b) ≤ℤ (c +ℤ d)
  floors-within p q r s y = by_lt_z (c +ℤ d) (a +ℤ b) (λ l. absurd (num-lt 61 (c +ℤ d) (a +ℤ b) l apart)) (λ l. l)
    where
      apart : num 61 (a +ℤ b) ≤ᵍ num 61 (c +ℤ d)
      apart = le-trans _ (num 61 a +ᵍ num 61 b) _ (num-le_plus 61 a b)
          (le-trans _ (A +ᵍ B) _ (plus-le_both (num 61 a) A (num 61 b) B (over-floor A a p) (over-floor B b q))
          (le-trans _ (C +ᵍ D) _ y
          (le-trans _ (num 61 c +ᵍ num 61 d) _ (plus-le_both C (num 61 c) D (num 61 d) (under-ceiling C c r) (under-ceiling D d s)) (num-plus_le 61 c d))))

-- the same of ids, as the sums are compared
pub ceilings-hold : (Ts : List Tree) (p : SumPair) (m n : ℤ) → AreCeilings Ts p.first p.second m → AreFloors Ts p.third p.fourth n → m ≤ℤ n → IsSumWithin Ts p
ceilings-hold Ts p m n x y l = sums-within _ _ _ _ x.0 x.1 y.0 y.1 x.2 x.3 y.2 y.3 (omega (arith, ints, l, x.4, y.4))

pub floors-hold : (Ts : List Tree) (p : SumPair) (m n : ℤ) → AreFloors Ts p.first p.second m → AreCeilings Ts p.third p.fourth n → IsSumWithin Ts p → m ≤ℤ n
floors-hold Ts p m n x y w = let l = floors-within _ _ _ _ x.0 x.1 y.0 y.1 x.2 x.3 y.2 y.3 w in omega (arith, ints, l, x.4, y.4)

pub numbers-hold : (Ts : List Tree) (p : SumPair) (low high other_low other_high : ℤ) → AreNumbers Ts p
    → AreFloors Ts p.first p.second low → AreCeilings Ts p.first p.second high → AreFloors Ts p.third p.fourth other_low → AreCeilings Ts p.third p.fourth other_high
    → low ≤ℤ other_high → high ≤ℤ other_low
numbers-hold Ts p low high other_low other_high n s t u v l =
    let w = level _ s.0 t.0 n.first_number s.2 t.2 in
    let x = level _ s.1 t.1 n.second_number s.3 t.3 in
    let y = level _ u.0 v.0 n.third_number u.2 v.2 in
    let z = level _ u.1 v.1 n.fourth_number u.3 v.3 in
    omega (arith, ints, w, x, y, z, l, s.4, t.4, u.4, v.4)

-- sums of the same games
pub same-within : (Ts : List Tree) (p : SumPair) → AreSameSums p → IsSumWithin Ts p
same-within Ts p (inl s) = subst (λ i. tree_at Ts p.first +ᵍ tree_at Ts p.second ≤ᵍ tree_at Ts i +ᵍ tree_at Ts p.fourth) s.0
    (subst (λ i. tree_at Ts p.first +ᵍ tree_at Ts p.second ≤ᵍ tree_at Ts p.first +ᵍ tree_at Ts i) s.1 (le-refl (tree_at Ts p.first +ᵍ tree_at Ts p.second)))
same-within Ts p (inr s) = subst (λ i. tree_at Ts p.first +ᵍ tree_at Ts p.second ≤ᵍ tree_at Ts i +ᵍ tree_at Ts p.fourth) s.1
    (subst (λ i. tree_at Ts p.first +ᵍ tree_at Ts p.second ≤ᵍ tree_at Ts p.second +ᵍ tree_at Ts i) s.0 (plus-comm (tree_at Ts p.first) (tree_at Ts p.second)))
