-- How stops, floors and ceilings follow from those of the options.
use Rattle.std.proofs.Math.Nat.{pow-suc}
use Rattle.std.proofs.Common.{ap₂, ◌<ℤ◌, ◌+◌, ◌*ℤ◌, ◌-ℤ◌, ◌^◌, ◌∙◌, ℕ, zero, suc, ◌≡◌, ◌⊎◌, ◌↔◌, arith, refl, inl, inr, sym, subst, ℤ, pos, negsuc, ◌+ℤ◌, ◌≤ℤ◌}
use Rattle.std.proofs.lemmas.Int.{ints, by_lt_z}
use Rattle.short_games.specs.Tree.{Tree, Trees, node, none, more, left, right, Has, size}
use Rattle.short_games.specs.Order.{◌≤ᵍ◌}
use Rattle.short_games.specs.Number.{num, IsNumber, IsNumberTree}
use Rattle.short_games.specs.TextOrder.{IsCanonicalTree, TextBefore}
use Rattle.short_games.specs.Threshold.{IsFloor, IsCeiling}
use Rattle.short_games.specs.Stops.{IsLeftStop, IsRightStop, IsGreatestRight, IsLeastLeft, IsHalf, GoesWithLeftStop, GoesWithRightStop}
use Rattle.short_games.proofs.NumberLaws.{num-double, num-lt}
use Rattle.short_games.proofs.OrderLaws.{by_measure, le-trans, size-left, size-right}
use Rattle.short_games.proofs.CanonicalLaws.{canonical-left, canonical-right}
use Rattle.short_games.proofs.TextOrderLaws.{text-order}
use Rattle.short_games.proofs.ReductionLaws.{canonical-number}
use Rattle.short_games.proofs.ThresholdLaws.{cell, number-floor, number-ceiling, game-floor, game-ceiling, half-cell}

-- a direction along the numbers, upwards or downwards
pub record IsDirection (Below : ℤ → ℤ → Type 0) : Type 0 where
  pub same : (x : ℤ) → Below x x
  pub further : (x y z : ℤ) → Below x y → Below y z → Below x z
  pub either : (x y : ℤ) → Below x y ⊎ Below y x

either_way : (x y : ℤ) → (x ≤ℤ y) ⊎ (y ≤ℤ x)
either_way x y = by_lt_z x y (λ l. inl (omega (arith, ints, l))) (λ l. inr l)

pub upwards : IsDirection (λ x y. x ≤ℤ y)
upwards = record { same = λ x. omega (arith, ints); further = λ x y z a b. omega (arith, ints, a, b); either = either_way }

pub downwards : IsDirection (λ x y. y ≤ℤ x)
downwards = record { same = λ x. omega (arith, ints); further = λ x y z a b. omega (arith, ints, a, b); either = λ x y. either_way y x }

-- the furthest in a direction of what the trees of a list have
pub record IsMost (Below : ℤ → ℤ → Type 0) (P : Tree → ℤ → Type 0) (Gs : Trees) (x : ℤ) : Type 0 where
  pub bound : (G : Tree) → Has Gs G → (y : ℤ) × P G y × Below y x
  pub reached : (G : Tree) × Has Gs G × P G x

-- the greatest and the least
abbrev pub IsGreatest : (Tree → ℤ → Type 0) → Trees → ℤ → Type 0
IsGreatest P Gs x = IsMost (λ y z. y ≤ℤ z) P Gs x

abbrev pub IsLeast : (Tree → ℤ → Type 0) → Trees → ℤ → Type 0
IsLeast P Gs x = IsMost (λ y z. z ≤ℤ y) P Gs x

module _ (Below : ℤ → ℤ → Type 0) (o : IsDirection Below) (P : Tree → ℤ → Type 0) where
  most-one : (G : Tree) (x : ℤ) → P G x → IsMost Below P (more G none) x
  most-one G x p = record { bound = λ H h. elim h [ inl i ↦ (x, subst (λ t. P t x) (sym i) p, o.same x) | inr a ↦ absurd a ]; reached = (G, inl refl, p) }

  most-more : (G : Tree) (Gs : Trees) (y z x : ℤ) → P G y → IsMost Below P Gs z → Below y x → Below z x → (y ≡ x) ⊎ (z ≡ x) → IsMost Below P (more G Gs) x
  most-more G Gs y z x p g a b e = record {
    bound = λ K k. elim k [ inl i ↦ (y, subst (λ t. P t y) (sym i) p, a) | inr j ↦ (let w = g.bound K j in (w.0, w.1, o.further w.0 z x w.2 b)) ];
    reached = elim e [ inl i ↦ (G, inl refl, subst (P G) i p) | inr i ↦ (g.reached.0, inr g.reached.1, subst (P g.reached.0) i g.reached.2) ];
  }

  most : (Gs : Trees) → ((G : Tree) → Has Gs G → (x : ℤ) × P G x) → (G : Tree) → Has Gs G → (x : ℤ) × IsMost Below P Gs x
  most none f K k = absurd k
  most (more G none) f K k = let r = f G (inl refl) in (r.0, most-one G r.0 r.1)
  most (more G (more H Hs)) f K k =
      let r = f G (inl refl) in
      let s = most (more H Hs) (λ X x. f X (inr x)) H (inl refl) in
      elim (o.either r.0 s.0) [
        | inl l ↦ (s.0, most-more G (more H Hs) r.0 s.0 s.0 r.1 s.1 l (o.same s.0) (inr refl))
        | inr l ↦ (r.0, most-more G (more H Hs) r.0 s.0 r.0 r.1 s.1 (o.same r.0) l (inl refl))
      ]

-- the furthest of a list told tree by tree, as the definitions of stops and of walls tell it
pub record IsChosen (Below : ℤ → ℤ → Type 0) (P : Tree → ℤ → Type 0) (Is : Trees → ℤ → Type 0) : Type 0 where
  pub none_is : (x : ℤ) → Is none x → ⊥
  pub one_is : (G : Tree) (x : ℤ) → P G x ↔ Is (more G none) x
  pub more_is : (G H : Tree) (Hs : Trees) (x : ℤ)
      → ((y : ℤ) × ((z : ℤ) × P G y × Is (more H Hs) z × Below y x × Below z x × ((y ≡ x) ⊎ (z ≡ x)))) ↔ Is (more G (more H Hs)) x

module _ (Below : ℤ → ℤ → Type 0) (o : IsDirection Below) (P : Tree → ℤ → Type 0) (Is : Trees → ℤ → Type 0) (c : IsChosen Below P Is) where
  pub chosen-most : (Gs : Trees) (x : ℤ) → Is Gs x → IsMost Below P Gs x
  chosen-most none x h = absurd (c.none_is x h)
  chosen-most (more G none) x h = most-one Below o P G x ((c.one_is G x).1 h)
  chosen-most (more G (more H Hs)) x h = let w = (c.more_is G H Hs x).1 h in
      most-more Below o P G (more H Hs) w.0 w.1.0 x w.1.1 (chosen-most (more H Hs) w.1.0 w.1.2) w.1.3 w.1.4 w.1.5

  -- a list has one where its trees have what is asked; what else these have, the furthest has too
  one_more : (Q : Tree → ℤ → Type 0) (G H : Tree) (Hs : Trees) → (x : ℤ) × P G x × Q G x → (x : ℤ) × Is (more H Hs) x × IsMost Below Q (more H Hs) x
      → (x : ℤ) × Is (more G (more H Hs)) x × IsMost Below Q (more G (more H Hs)) x
  one_more Q G H Hs r s = elim (o.either r.0 s.0) [ inl l ↦ at s.0 l (o.same s.0) (inr refl) | inr l ↦ at r.0 (o.same r.0) l (inl refl) ]
    where
      at : (x : ℤ) → Below r.0 x → Below s.0 x → (r.0 ≡ x) ⊎ (s.0 ≡ x) → (x : ℤ) × Is (more G (more H Hs)) x × IsMost Below Q (more G (more H Hs)) x
      at x a b e = (x, (c.more_is G H Hs x).0 (r.0, (s.0, r.1, s.1, a, b, e)), most-more Below o Q G (more H Hs) r.0 s.0 x r.2 s.2 a b e)

  pub chosen : (Q : Tree → ℤ → Type 0) (Gs : Trees) → ((G : Tree) → Has Gs G → (x : ℤ) × P G x × Q G x) → (G : Tree) → Has Gs G
      → (x : ℤ) × Is Gs x × IsMost Below Q Gs x
  chosen Q none f K k = absurd k
  chosen Q (more G none) f K k = let r = f G (inl refl) in (r.0, (c.one_is G r.0).0 r.1, most-one Below o Q G r.0 r.2)
  chosen Q (more G (more H Hs)) f K k = one_more Q G H Hs (f G (inl refl)) (chosen Q (more H Hs) (λ X x. f X (inr x)) H (inl refl))

-- the ceiling of a game that is no number is one above the greatest floor of its Left options
pub ceiling-by : (e : ℕ) (G : Tree) (k : ℤ) → (IsNumber G → ⊥) → IsGreatest (IsFloor e) (left G) k → IsCeiling e G (k +ℤ pos 1)
ceiling-by e G k no_number g = game-ceiling e G k no_number (λ f m h c. (
  λ all. by_lt_z k h (λ l. l) (λ l. absurd (all g.reached.0 g.reached.1 ((g.reached.2 f m h c).1 l))),
  λ l L i y. (let b = g.bound L i in let n : h ≤ℤ b.0 = (b.1 f m h c).0 y in omega (arith, ints, l, n, b.2)),
))

pub floor-by : (e : ℕ) (G : Tree) (k : ℤ) → (IsNumber G → ⊥) → IsLeast (IsCeiling e) (right G) k → IsFloor e G (k +ℤ negsuc 0)
floor-by e G k no_number g = game-floor e G k no_number (λ f m h c. (
  λ all. by_lt_z h k (λ l. l) (λ l. absurd (all g.reached.0 g.reached.1 ((g.reached.2 f m h c).1 l))),
  λ l R i y. (let b = g.bound R i in let n : b.0 ≤ℤ h = (b.1 f m h c).0 y in omega (arith, ints, l, n, b.2)),
))

-- a game has one floor and one ceiling
pub one-floor : (e : ℕ) (G : Tree) (j k : ℤ) → IsFloor e G j → IsFloor e G k → j ≡ k
one-floor e G j k a b =
    let p : j ≤ℤ k = (b (suc e) j j (half-cell e j)).0 ((a (suc e) j j (half-cell e j)).1 (omega (arith, ints))) in
    let q : k ≤ℤ j = (a (suc e) k k (half-cell e k)).0 ((b (suc e) k k (half-cell e k)).1 (omega (arith, ints))) in
    omega (arith, ints, p, q)

pub one-ceiling : (e : ℕ) (G : Tree) (j k : ℤ) → IsCeiling e G j → IsCeiling e G k → j ≡ k
one-ceiling e G j k a b =
    let p : k ≤ℤ j = (b (suc e) j j (half-cell e j)).0 ((a (suc e) j j (half-cell e j)).1 (omega (arith, ints))) in
    let q : j ≤ℤ k = (a (suc e) k k (half-cell e k)).0 ((b (suc e) k k (half-cell e k)).1 (omega (arith, ints))) in
    omega (arith, ints, p, q)

-- the tree of a number has the number as its stops
pub number-left_stop : (e : ℕ) (G : Tree) (x : ℤ) → G ≡ num e x → IsLeftStop e G x
unfolding IsLeftStop
number-left_stop e (node ls rs) x i = inl i

pub number-right_stop : (e : ℕ) (G : Tree) (x : ℤ) → G ≡ num e x → IsRightStop e G x
unfolding IsLeftStop
number-right_stop e (node ls rs) x i = inl i

-- another tree has stops where its options have them
pub greatest_right-chosen : (e : ℕ) → IsChosen (λ y z. y ≤ℤ z) (IsRightStop e) (IsGreatestRight e)
unfolding IsLeftStop
greatest_right-chosen e = record { none_is = λ x h. h; one_is = λ G x. (λ h. h, λ h. h); more_is = λ G H Hs x. (λ h. h, λ h. h) }

pub least_left-chosen : (e : ℕ) → IsChosen (λ y z. z ≤ℤ y) (IsLeftStop e) (IsLeastLeft e)
unfolding IsLeftStop
least_left-chosen e = record { none_is = λ x h. h; one_is = λ G x. (λ h. h, λ h. h); more_is = λ G H Hs x. (λ h. h, λ h. h) }

pub game-left_stop : (e : ℕ) (G : Tree) → (IsNumberTree G → ⊥) → ((L : Tree) → Has (left G) L → (x : ℤ) × IsRightStop e L x) → (L : Tree) → Has (left G) L → (x : ℤ) × IsLeftStop e G x
unfolding IsLeftStop
game-left_stop e (node ls rs) n f L l = let r =
    chosen _ upwards _ _ (greatest_right-chosen e) (λ X x. X ≡ X) ls (λ X x. (let s = f X x in (s.0, s.1, refl))) L l in (r.0, inr (n, r.1))

pub game-right_stop : (e : ℕ) (G : Tree) → (IsNumberTree G → ⊥) → ((R : Tree) → Has (right G) R → (x : ℤ) × IsLeftStop e R x) → (R : Tree) → Has (right G) R → (x : ℤ) × IsRightStop e G x
unfolding IsLeftStop
game-right_stop e (node ls rs) n f R r = let s =
    chosen _ downwards _ _ (least_left-chosen e) (λ X x. X ≡ X) rs (λ X x. (let s = f X x in (s.0, s.1, refl))) R r in (s.0, inr (n, s.1))

-- what a stop is
pub data StopIs (e : ℕ) (G : Tree) (x : ℤ) (Is : Type 0) : Type 0 where
  of_number : G ≡ num e x → StopIs e G x Is
  of_game : (IsNumberTree G → ⊥) → Is → StopIs e G x Is

pub left_stop-is : (e : ℕ) (G : Tree) (x : ℤ) → IsLeftStop e G x → StopIs e G x (IsGreatest (IsRightStop e) (left G) x)
unfolding IsLeftStop
left_stop-is e (node ls rs) x (inl i) = of_number i
left_stop-is e (node ls rs) x (inr h) = of_game h.0 (chosen-most _ upwards _ _ (greatest_right-chosen e) ls x h.1)

pub right_stop-is : (e : ℕ) (G : Tree) (x : ℤ) → IsRightStop e G x → StopIs e G x (IsLeast (IsLeftStop e) (right G) x)
unfolding IsLeftStop
right_stop-is e (node ls rs) x (inl i) = of_number i
right_stop-is e (node ls rs) x (inr h) = of_game h.0 (chosen-most _ downwards _ _ (least_left-chosen e) rs x h.1)

-- the ceiling goes with the left stop, and the floor with the right one
abbrev pub CeilingBy : ℕ → Tree → ℤ → Type 0
CeilingBy e G x = (k : ℤ) × IsCeiling e G k × IsHalf x k

abbrev pub FloorBy : ℕ → Tree → ℤ → Type 0
FloorBy e G x = (k : ℤ) × IsFloor e G k × IsHalf x (k +ℤ pos 1)

pub ceiling_step : (P : Tree → ℤ → Type 0) (e : ℕ) (G : Tree) (x : ℤ) → (IsNumber G → ⊥) → IsGreatest P (left G) x → ((L : Tree) → Has (left G) L → (y : ℤ) → P L y → FloorBy e L y) → CeilingBy e G x
ceiling_step P e G x n g f =
    let h = most _ upwards (IsFloor e) (left G) (λ L l. (let b = g.bound L l in let w = f L l b.0 b.1 in (w.0, w.1))) g.reached.0 g.reached.1 in
    let b = g.bound h.1.reached.0 h.1.reached.1 in
    let v = f h.1.reached.0 h.1.reached.1 b.0 b.1 in
    let w = f g.reached.0 g.reached.1 x g.reached.2 in
    let j = h.1.bound g.reached.0 g.reached.1 in
    let p : v.0 ≡ h.0 = one-floor e h.1.reached.0 v.0 h.0 v.1 h.1.reached.2 in
    let q : w.0 ≡ j.0 = one-floor e g.reached.0 w.0 j.0 w.1 j.1 in
    (h.0 +ℤ pos 1, ceiling-by e G h.0 n h.1, (omega (arith, ints, w.2.0, q, j.2), omega (arith, ints, v.2.1, p, b.2)))

pub floor_step : (P : Tree → ℤ → Type 0) (e : ℕ) (G : Tree) (x : ℤ) → (IsNumber G → ⊥) → IsLeast P (right G) x → ((R : Tree) → Has (right G) R → (y : ℤ) → P R y → CeilingBy e R y) → FloorBy e G x
floor_step P e G x n g f =
    let h = most _ downwards (IsCeiling e) (right G) (λ R r. (let b = g.bound R r in let w = f R r b.0 b.1 in (w.0, w.1))) g.reached.0 g.reached.1 in
    let b = g.bound h.1.reached.0 h.1.reached.1 in
    let v = f h.1.reached.0 h.1.reached.1 b.0 b.1 in
    let w = f g.reached.0 g.reached.1 x g.reached.2 in
    let j = h.1.bound g.reached.0 g.reached.1 in
    let p : v.0 ≡ h.0 = one-ceiling e h.1.reached.0 v.0 h.0 v.1 h.1.reached.2 in
    let q : w.0 ≡ j.0 = one-ceiling e g.reached.0 w.0 j.0 w.1 j.1 in
    (h.0 +ℤ negsuc 0, floor-by e G h.0 n h.1, (omega (arith, ints, v.2.0, p, b.2), omega (arith, ints, w.2.1, q, j.2)))

module _ (e : ℕ) where
  record Both (G : Tree) : Type 0 where
    ceiling : (x : ℤ) → IsLeftStop e G x → CeilingBy e G x
    floor : (x : ℤ) → IsRightStop e G x → FloorBy e G x

  both_step : (G : Tree) → IsCanonicalTree G → ((L : Tree) → Has (left G) L → Both L) → ((R : Tree) → Has (right G) R → Both R) → Both G
  both_step G c f g = record {
    ceiling = λ x s. elim (left_stop-is e G x s) [
      | of_number i ↦ (x +ℤ x, subst (λ t. IsCeiling e t (x +ℤ x)) (sym i) (number-ceiling e x), (omega (arith, ints), omega (arith, ints)))
      | of_game n h ↦ ceiling_step (IsRightStop e) e G x (no_number n) h (λ L l. (f L l).floor)
    ];
    floor = λ x s. elim (right_stop-is e G x s) [
      | of_number i ↦ (x +ℤ x, subst (λ t. IsFloor e t (x +ℤ x)) (sym i) (number-floor e x), (omega (arith, ints), omega (arith, ints)))
      | of_game n h ↦ floor_step (IsLeftStop e) e G x (no_number n) h (λ R r. (g R r).ceiling)
    ];
  }
    where
      no_number : (IsNumberTree G → ⊥) → IsNumber G → ⊥
      no_number n i = n (i.0, i.1, canonical-number G c i)

  both : (G : Tree) → IsCanonicalTree G → Both G
  both = by_measure size (λ G. IsCanonicalTree G → Both G) (λ G ih c. both_step G c
      (λ L l. ih L (size-left G L l) (canonical-left TextBefore text-order.irreflexive text-order.transitive G L c l))
      (λ R r. ih R (size-right G R r) (canonical-right TextBefore text-order.irreflexive text-order.transitive G R c r)))

  pub goes_with-left : (G : Tree) (k : ℤ) → IsCanonicalTree G → IsCeiling e G k → (x : ℤ) × IsLeftStop e G x → GoesWithLeftStop e G k
  goes_with-left G k c h s = let r = (both G c).ceiling s.0 s.1 in (s.0, s.1, rw (one-ceiling e G k r.0 h r.1) r.2)

  pub goes_with-right : (G : Tree) (k : ℤ) → IsCanonicalTree G → IsFloor e G k → (x : ℤ) × IsRightStop e G x → GoesWithRightStop e G k
  goes_with-right G k c h s = let r = (both G c).floor s.0 s.1 in (s.0, s.1, rw (one-floor e G k r.0 h r.1) r.2)

pub times-twice : (m : ℤ) (a b : ℕ) → b ≡ a + a → m *ℤ pos b ≡ (m *ℤ pos a) +ℤ (m *ℤ pos a)
times-twice m a b e = grind (arith, ints)

-- a number over a power of two that is greater by d
pub num-scaled : (d e : ℕ) (m : ℤ) → num (d + e) (m *ℤ pos (2 ^ d)) ≡ num e m
num-scaled zero e m = ap₂ num (omega arith) (grind (arith, ints))
num-scaled (suc d) e m = ap₂ num (omega arith) (times-twice m (2 ^ d) (2 ^ suc d) (omega (arith, pow-suc 2 d))) ∙ num-double (d + e) (m *ℤ pos (2 ^ d)) ∙ num-scaled d e m

-- a game is at most each number above the stop that goes with its ceiling, and at most none below
pub under-ceiling : (e : ℕ) (G : Tree) (x : ℤ) → CeilingBy e G x → (d : ℕ) (y : ℤ) → pos 0 <ℤ y → G ≤ᵍ num (d + e) ((x *ℤ pos (2 ^ d)) +ℤ y)
under-ceiling e G x k d y p =
    let h = cell e (d + e) ((x *ℤ pos (2 ^ d)) +ℤ y) in
    (k.1 (d + e) ((x *ℤ pos (2 ^ d)) +ℤ y) h.0 h.1).1 (by_lt_z (x +ℤ x) h.0
    (λ l. omega (arith, ints, l, k.2.1))
    (λ l. absurd (num-lt (d + e) (x *ℤ pos (2 ^ d)) ((x *ℤ pos (2 ^ d)) +ℤ y) (omega (arith, ints, p)) (subst (λ t. num (d + e) ((x *ℤ pos (2 ^ d)) +ℤ y) ≤ᵍ t) (sym (num-scaled d e x)) ((h.1.under x).1 l)))))

pub not-under_ceiling : (e : ℕ) (G : Tree) (x : ℤ) → CeilingBy e G x → (d : ℕ) (y : ℤ) → pos 0 <ℤ y → G ≤ᵍ num (d + e) ((x *ℤ pos (2 ^ d)) -ℤ y) → ⊥
not-under_ceiling e G x k d y p q =
    let h = cell e (d + e) ((x *ℤ pos (2 ^ d)) -ℤ y) in
    let l : k.0 ≤ℤ h.0 = (k.1 (d + e) ((x *ℤ pos (2 ^ d)) -ℤ y) h.0 h.1).0 q in
    num-lt (d + e) ((x *ℤ pos (2 ^ d)) -ℤ y) (x *ℤ pos (2 ^ d)) (omega (arith, ints, p))
    (subst (λ t. t ≤ᵍ num (d + e) ((x *ℤ pos (2 ^ d)) -ℤ y)) (sym (num-scaled d e x)) ((h.1.over x).1 (omega (arith, ints, l, k.2.0))))

-- and at least each number below the stop that goes with its floor, and at least none above
pub over-floor : (e : ℕ) (G : Tree) (x : ℤ) → FloorBy e G x → (d : ℕ) (y : ℤ) → pos 0 <ℤ y → num (d + e) ((x *ℤ pos (2 ^ d)) -ℤ y) ≤ᵍ G
over-floor e G x k d y p =
    let h = cell e (d + e) ((x *ℤ pos (2 ^ d)) -ℤ y) in
    (k.1 (d + e) ((x *ℤ pos (2 ^ d)) -ℤ y) h.0 h.1).1 (by_lt_z h.0 (x +ℤ x)
    (λ l. omega (arith, ints, l, k.2.0))
    (λ l. absurd (num-lt (d + e) ((x *ℤ pos (2 ^ d)) -ℤ y) (x *ℤ pos (2 ^ d)) (omega (arith, ints, p)) (subst (λ t. t ≤ᵍ num (d + e) ((x *ℤ pos (2 ^ d)) -ℤ y)) (sym (num-scaled d e x)) ((h.1.over x).1 l)))))

pub not-over_floor : (e : ℕ) (G : Tree) (x : ℤ) → FloorBy e G x → (d : ℕ) (y : ℤ) → pos 0 <ℤ y → num (d + e) ((x *ℤ pos (2 ^ d)) +ℤ y) ≤ᵍ G → ⊥
not-over_floor e G x k d y p q =
    let h = cell e (d + e) ((x *ℤ pos (2 ^ d)) +ℤ y) in
    let l : h.0 ≤ℤ k.0 = (k.1 (d + e) ((x *ℤ pos (2 ^ d)) +ℤ y) h.0 h.1).0 q in
    num-lt (d + e) (x *ℤ pos (2 ^ d)) ((x *ℤ pos (2 ^ d)) +ℤ y) (omega (arith, ints, p))
    (subst (λ t. num (d + e) ((x *ℤ pos (2 ^ d)) +ℤ y) ≤ᵍ t) (sym (num-scaled d e x)) ((h.1.under x).1 (omega (arith, ints, l, k.2.1))))

pub under-left_stop : (e : ℕ) (G : Tree) (x : ℤ) → IsCanonicalTree G → IsLeftStop e G x → (d : ℕ) (y : ℤ) → pos 0 <ℤ y → G ≤ᵍ num (d + e) ((x *ℤ pos (2 ^ d)) +ℤ y)
under-left_stop e G x c s = under-ceiling e G x ((both e G c).ceiling x s)

pub over-right_stop : (e : ℕ) (G : Tree) (x : ℤ) → IsCanonicalTree G → IsRightStop e G x → (d : ℕ) (y : ℤ) → pos 0 <ℤ y → num (d + e) ((x *ℤ pos (2 ^ d)) -ℤ y) ≤ᵍ G
over-right_stop e G x c s = over-floor e G x ((both e G c).floor x s)

-- so the left stop is at least the right one
pub stops-ordered : (e : ℕ) (G : Tree) (l r : ℤ) → IsCanonicalTree G → IsLeftStop e G l → IsRightStop e G r → r ≤ℤ l
stops-ordered e G l r c p q = by_lt_z l r
    (λ b. (
    let high = under-left_stop e G l c p 2 (pos 1) (omega (arith, ints)) in
    let low = over-right_stop e G r c q 2 (pos 1) (omega (arith, ints)) in
    absurd (num-lt (2 + e) ((l *ℤ pos (2 ^ 2)) +ℤ pos 1) ((r *ℤ pos (2 ^ 2)) -ℤ pos 1) (omega (arith, ints, b)) (le-trans _ G _ low high))
    ))
    (λ b. b)
