-- What the stops of games tell of their sum.
use Rattle.std.proofs.Common.{ℕ, zero, suc, ◌≡◌, ◌+◌, ◌<◌, ◌^◌, arith, inl, inr, sym, ap, ◌∙◌, subst, ℤ, pos, ◌+ℤ◌, ◌-ℤ◌, ◌*ℤ◌, ◌<ℤ◌}
use Rattle.std.proofs.Math.Nat.{pow-suc}
use Rattle.std.proofs.lemmas.Int.{ints}
use Rattle.std.specs.declared.cmp.Ordering.TheVariants.{Less, Greater}
use Rattle.short_games.specs.Tree.{Tree, left, right, size}
use Rattle.short_games.specs.Order.{◌≤ᵍ◌}
use Rattle.short_games.specs.Sum.{◌+ᵍ◌}
use Rattle.short_games.specs.Number.{num, IsNumberTree, number_tree}
use Rattle.short_games.specs.Parts.{IsOption, IsNumberOf}
use Rattle.short_games.specs.Stops.{IsLeftStop, IsRightStop}
use Rattle.short_games.proofs.OrderLaws.{le-trans, size-left, size-right}
use Rattle.short_games.proofs.SumLaws.{nought, plus-le_both}
use Rattle.short_games.proofs.NumberLaws.{num-le, num-lt, num-zero, num-double, num-plus_le, num-le_plus}
use Rattle.short_games.proofs.PartLaws.{option-numbers}
use Rattle.short_games.proofs.StopLaws.{StopIs, IsGreatest, IsLeast, left_stop-is, right_stop-is, num-scaled}
use Rattle.short_games.proofs.StopLaws.StopIs.{of_number, of_game}
use Rattle.sum_outcome.specs.inner.Search.{IsSign}

-- G is at least each number below l parts of 2 ^ -60, and at most each number above h
abbrev pub IsOver : Tree → ℤ → Type 0
IsOver G l = (d : ℕ) (y : ℤ) → pos 0 <ℤ y → num (d + 60) ((l *ℤ pos (2 ^ d)) -ℤ y) ≤ᵍ G

abbrev pub IsUnder : Tree → ℤ → Type 0
IsUnder G h = (d : ℕ) (y : ℤ) → pos 0 <ℤ y → G ≤ᵍ num (d + 60) ((h *ℤ pos (2 ^ d)) +ℤ y)

one_more : (m : ℤ) (p : ℕ) → m *ℤ pos (suc p) ≡ (m *ℤ pos p) +ℤ m
one_more m p = grind (arith, ints)

spread : (p : ℕ) (a b : ℤ) → (a +ℤ b) *ℤ pos p ≡ (a *ℤ pos p) +ℤ (b *ℤ pos p)
spread zero a b = omega (arith, ints)
spread (suc p) a b = omega (arith, ints, one_more (a +ℤ b) p, one_more a p, one_more b p, spread p a b)

twice : (m : ℤ) (p q : ℕ) → q ≡ p + p → m *ℤ pos q ≡ (m *ℤ pos p) +ℤ (m *ℤ pos p)
twice m p q e = rw e (grind (arith, ints))

-- such bounds add up, since any y is twice a part of half the size
halves_below : (a b y : ℤ) (p q : ℕ) → q ≡ p + p → (((a +ℤ b) *ℤ pos p) -ℤ y) +ℤ (((a +ℤ b) *ℤ pos p) -ℤ y) ≡ ((a *ℤ pos q) -ℤ y) +ℤ ((b *ℤ pos q) -ℤ y)
halves_below a b y p q e = omega (arith, ints, spread p a b, twice a p q e, twice b p q e)

halves_above : (a b y : ℤ) (p q : ℕ) → q ≡ p + p → (((a +ℤ b) *ℤ pos p) +ℤ y) +ℤ (((a +ℤ b) *ℤ pos p) +ℤ y) ≡ ((a *ℤ pos q) +ℤ y) +ℤ ((b *ℤ pos q) +ℤ y)
halves_above a b y p q e = omega (arith, ints, spread p a b, twice a p q e, twice b p q e)

finer : (d : ℕ) (k m : ℤ) → k +ℤ k ≡ m → num (d + 60) k ≡ num (suc d + 60) m
finer d k m e = sym (num-double (d + 60) k) ∙ ap (λ n. num n (k +ℤ k)) (omega arith) ∙ ap (num (suc d + 60)) e

pub over-plus : (G H : Tree) (a b : ℤ) → IsOver G a → IsOver H b → IsOver (G +ᵍ H) (a +ℤ b)
over-plus G H a b f g d y p =
    let q = 2 ^ suc d in
    let A = (a *ℤ pos q) -ℤ y in
    let B = (b *ℤ pos q) -ℤ y in
    subst (λ t. t ≤ᵍ G +ᵍ H) (sym (finer d (((a +ℤ b) *ℤ pos (2 ^ d)) -ℤ y) (A +ℤ B) (halves_below a b y (2 ^ d) q (omega (arith, pow-suc 2 d)))))
    (le-trans _ _ _ (num-le_plus (suc d + 60) A B) (plus-le_both (num (suc d + 60) A) G (num (suc d + 60) B) H (f (suc d) y p) (g (suc d) y p)))

pub under-plus : (G H : Tree) (a b : ℤ) → IsUnder G a → IsUnder H b → IsUnder (G +ᵍ H) (a +ℤ b)
under-plus G H a b f g d y p =
    let q = 2 ^ suc d in
    let A = (a *ℤ pos q) +ℤ y in
    let B = (b *ℤ pos q) +ℤ y in
    subst (λ t. G +ᵍ H ≤ᵍ t) (sym (finer d (((a +ℤ b) *ℤ pos (2 ^ d)) +ℤ y) (A +ℤ B) (halves_above a b y (2 ^ d) q (omega (arith, pow-suc 2 d)))))
    (le-trans _ _ _ (plus-le_both G (num (suc d + 60) A) H (num (suc d + 60) B) (f (suc d) y p) (g (suc d) y p)) (num-plus_le (suc d + 60) A B))

pub over-number : (x : ℤ) → IsOver (number_tree x) x
over-number x d y p = subst (λ t. num (d + 60) ((x *ℤ pos (2 ^ d)) -ℤ y) ≤ᵍ t) (num-scaled d 60 x) (num-le (d + 60) ((x *ℤ pos (2 ^ d)) -ℤ y) (x *ℤ pos (2 ^ d)) (omega (arith, ints, p)))

pub under-number : (x : ℤ) → IsUnder (number_tree x) x
under-number x d y p = subst (λ t. t ≤ᵍ num (d + 60) ((x *ℤ pos (2 ^ d)) +ℤ y)) (num-scaled d 60 x) (num-le (d + 60) (x *ℤ pos (2 ^ d)) ((x *ℤ pos (2 ^ d)) +ℤ y) (omega (arith, ints, p)))

-- the sign by a bound that isn't 0
pub over-sign : (G : Tree) (l : ℤ) → IsOver G l → pos 0 <ℤ l → IsSign Greater G
over-sign G l f p =
    let k = (l *ℤ pos (2 ^ 1)) -ℤ pos 1 in
    let h : num 61 k ≤ᵍ G = f 1 (pos 1) (omega (arith, ints)) in (
      le-trans nought (num 61 k) G (subst (λ t. t ≤ᵍ num 61 k) (num-zero 61) (num-le 61 (pos 0) k (omega (arith, ints, p)))) h,
      λ g. num-lt 61 (pos 0) k (omega (arith, ints, p)) (subst (λ t. num 61 k ≤ᵍ t) (sym (num-zero 61)) (le-trans (num 61 k) G nought h g)),
    )

pub under-sign : (G : Tree) (l : ℤ) → IsUnder G l → l <ℤ pos 0 → IsSign Less G
under-sign G l f p =
    let k = (l *ℤ pos (2 ^ 1)) +ℤ pos 1 in
    let h : G ≤ᵍ num 61 k = f 1 (pos 1) (omega (arith, ints)) in (
      le-trans G (num 61 k) nought h (subst (λ t. num 61 k ≤ᵍ t) (num-zero 61) (num-le 61 k (pos 0) (omega (arith, ints, p)))),
      λ g. num-lt 61 k (pos 0) (omega (arith, ints, p)) (subst (λ t. t ≤ᵍ num 61 k) (sym (num-zero 61)) (le-trans nought G (num 61 k) g h)),
    )

-- a tree's stops are numbers of it
record StopsAreIts (G : Tree) : Type 0 where
  on_left : (x : ℤ) → IsLeftStop 60 G x → IsNumberOf G x
  on_right : (x : ℤ) → IsRightStop 60 G x → IsNumberOf G x

its_step : (G : Tree) → ((X : Tree) → IsOption G X → StopsAreIts X) → StopsAreIts G
its_step G f = record { on_left = λ x s. at_left x (left_stop-is 60 G x s); on_right = λ x s. at_right x (right_stop-is 60 G x s) }
  where
    at_left : (x : ℤ) → StopIs 60 G x (IsGreatest (IsRightStop 60) (left G) x) → IsNumberOf G x
    at_left x (of_number e) = inl e
    at_left x (of_game n g) = let (L, h, s) = g.reached in option-numbers G L x n (inl h) ((f L (inl h)).on_right x s)

    at_right : (x : ℤ) → StopIs 60 G x (IsLeast (IsLeftStop 60) (right G) x) → IsNumberOf G x
    at_right x (of_number e) = inl e
    at_right x (of_game n g) = let (R, h, s) = g.reached in option-numbers G R x n (inr h) ((f R (inr h)).on_left x s)

smaller : (G X : Tree) → IsOption G X → size X < size G
smaller G X (inl h) = size-left G X h
smaller G X (inr h) = size-right G X h

its_within : (n : ℕ) (G : Tree) → size G < n → StopsAreIts G
its_within zero G a = absurd (omega (arith, a))
its_within (suc n) G a = its_step G (λ X o. its_within n X (omega (arith, a, smaller G X o)))

pub left_stop-number : (G : Tree) (x : ℤ) → IsLeftStop 60 G x → IsNumberOf G x
left_stop-number G = (its_within (suc (size G)) G (omega arith)).on_left

pub right_stop-number : (G : Tree) (x : ℤ) → IsRightStop 60 G x → IsNumberOf G x
right_stop-number G = (its_within (suc (size G)) G (omega arith)).on_right

-- of a number the stops are the number
pub left_stop-same : (G : Tree) (x : ℤ) → IsNumberTree G → IsLeftStop 60 G x → G ≡ number_tree x
left_stop-same G x n s = at (left_stop-is 60 G x s)
  where
    at : {Is : Type 0} → StopIs 60 G x Is → G ≡ number_tree x
    at (of_number e) = e
    at (of_game f g) = absurd (f n)

pub right_stop-same : (G : Tree) (x : ℤ) → IsNumberTree G → IsRightStop 60 G x → G ≡ number_tree x
right_stop-same G x n s = at (right_stop-is 60 G x s)
  where
    at : {Is : Type 0} → StopIs 60 G x Is → G ≡ number_tree x
    at (of_number e) = e
    at (of_game f g) = absurd (f n)
