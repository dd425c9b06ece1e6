-- Stops of games in any form: they go with ceilings and floors, and so with the order.
use Rattle.std.proofs.Math.Nat.{pow-suc}
use Rattle.std.proofs.Common.{zero, suc, ℕ, ◌+◌, ◌-◌, ◌^◌, ◌<◌, ◌≤◌, ◌≡◌, ◌⊎◌, ◌↔◌, arith, refl, inl, inr, sym, ◌∙◌, ap, subst, ℤ, pos, neg_ℤ, ◌+ℤ◌, ◌-ℤ◌, ◌*ℤ◌, ◌<ℤ◌, ◌≤ℤ◌}
use Rattle.std.proofs.lemmas.Int.{ints, by_lt_z}
use Rattle.short_games.specs.Tree.{Tree, Trees, node, none, more, left, right, Has, size, neg, neg_each}
use Rattle.short_games.specs.Order.{◌≤ᵍ◌, ◌≡ᵍ◌}
use Rattle.short_games.specs.Sum.{◌+ᵍ◌}
use Rattle.short_games.specs.Number.{num, IsNumber, IsNumberTree}
use Rattle.short_games.specs.TextOrder.{IsCanonicalTree, TextBefore}
use Rattle.short_games.specs.Canonical.{AreCanonical}
use Rattle.short_games.specs.Threshold.{IsCeiling, IsFloor}
use Rattle.short_games.specs.Stops.{IsLeftStop, IsRightStop, IsGreatestRight, IsLeastLeft}
use Rattle.short_games.specs.GameStops.{HasLeftStop, HasRightStop, HasGreatestRight, HasLeastLeft}
use Rattle.short_games.specs.GameStopLaws.{HaveStops, StopsBound, SignsTell}
use Rattle.short_games.proofs.OrderLaws.{by_measure, not-le, le-refl, le-trans, same-path, size-left, size-right}
use Rattle.short_games.proofs.SumLaws.{nought, nought-plus, plus-le, plus-le_both, plus-comm, plus-assoc, neg-le, neg-neg, neg-plus}
use Rattle.short_games.proofs.NumberLaws.{num-zero, num-double, num-le, num-lt, num-plus_le, num-le_plus, neg-num, neg-number}
use Rattle.short_games.proofs.ReductionLaws.{canonical-number}
use Rattle.short_games.proofs.TextOrderLaws.{text-order}
use Rattle.short_games.proofs.ExistenceLaws.{canon}
use Rattle.short_games.proofs.AvoidanceLaws.{cheap_left, cheap_right}
use Rattle.short_games.proofs.ExponentLaws.{over-size}
use Rattle.short_games.proofs.DrawnWallLaws.{left_wall, right_wall}
use Rattle.short_games.proofs.WallExistenceLaws.{walls-zero, walls-exist}
use Rattle.short_games.proofs.StopLaws.StopIs.{of_number, of_game}
use Rattle.short_games.proofs.ThresholdLaws.{number-ceiling, number-floor}
use Rattle.short_games.proofs.StopLaws.{left_stop-is, times-twice, upwards, downwards, IsGreatest, IsLeast, IsChosen, chosen, chosen-most, CeilingBy, FloorBy, ceiling_step, floor_step, num-scaled, under-ceiling, not-under_ceiling, over-floor, not-over_floor}

-- a game that is equal to a number has the number as its stops
pub number-has_left : (e : ℕ) (G : Tree) (x : ℤ) → G ≡ᵍ num e x → HasLeftStop e G x
unfolding HasLeftStop
number-has_left e (node ls rs) x s = inl s

pub number-has_right : (e : ℕ) (G : Tree) (x : ℤ) → G ≡ᵍ num e x → HasRightStop e G x
unfolding HasLeftStop
number-has_right e (node ls rs) x s = inl s

-- another game has those of its options
game-has_left : (e : ℕ) (G : Tree) (x : ℤ) → (IsNumber G → ⊥) → HasGreatestRight e (left G) x → HasLeftStop e G x
unfolding HasLeftStop
game-has_left e (node ls rs) x n h = inr (n, h)

game-has_right : (e : ℕ) (G : Tree) (x : ℤ) → (IsNumber G → ⊥) → HasLeastLeft e (right G) x → HasRightStop e G x
unfolding HasLeftStop
game-has_right e (node ls rs) x n h = inr (n, h)

greatest-chosen : (e : ℕ) → IsChosen (λ y z. y ≤ℤ z) (HasRightStop e) (HasGreatestRight e)
unfolding HasLeftStop
greatest-chosen e = record { none_is = λ x h. h; one_is = λ G x. (λ h. h, λ h. h); more_is = λ G H Hs x. (λ h. h, λ h. h) }

least-chosen : (e : ℕ) → IsChosen (λ y z. z ≤ℤ y) (HasLeftStop e) (HasLeastLeft e)
unfolding HasLeftStop
least-chosen e = record { none_is = λ x h. h; one_is = λ G x. (λ h. h, λ h. h); more_is = λ G H Hs x. (λ h. h, λ h. h) }

-- what a stop is
data GameStopIs (e : ℕ) (G : Tree) (x : ℤ) (Is : Type 0) : Type 0 where
  of_equal : G ≡ᵍ num e x → GameStopIs e G x Is
  of_other : (IsNumber G → ⊥) → Is → GameStopIs e G x Is

left-is : (e : ℕ) (G : Tree) (x : ℤ) → HasLeftStop e G x → GameStopIs e G x (IsGreatest (HasRightStop e) (left G) x)
unfolding HasLeftStop
left-is e (node ls rs) x (inl s) = of_equal s
left-is e (node ls rs) x (inr h) = of_other h.0 (chosen-most _ upwards _ _ (greatest-chosen e) ls x h.1)

right-is : (e : ℕ) (G : Tree) (x : ℤ) → HasRightStop e G x → GameStopIs e G x (IsLeast (HasLeftStop e) (right G) x)
unfolding HasLeftStop
right-is e (node ls rs) x (inl s) = of_equal s
right-is e (node ls rs) x (inr h) = of_other h.0 (chosen-most _ downwards _ _ (least-chosen e) rs x h.1)

-- equal games have equal ceilings and floors
ceiling-along : (e : ℕ) (G H : Tree) (k : ℤ) → G ≡ᵍ H → IsCeiling e H k → IsCeiling e G k
ceiling-along e G H k s i = λ f m h c. (λ y. (i f m h c).0 (le-trans H G _ s.1 y), λ l. le-trans G H _ s.0 ((i f m h c).1 l))

floor-along : (e : ℕ) (G H : Tree) (k : ℤ) → G ≡ᵍ H → IsFloor e H k → IsFloor e G k
floor-along e G H k s i = λ f m h c. (λ y. (i f m h c).0 (le-trans _ G H y s.0), λ l. le-trans _ H G ((i f m h c).1 l) s.1)

-- the left stop goes with the ceiling and the right stop with the floor
record Both (e : ℕ) (G : Tree) : Type 0 where
  ceiling : (x : ℤ) → HasLeftStop e G x → CeilingBy e G x
  floor : (x : ℤ) → HasRightStop e G x → FloorBy e G x

both : (e : ℕ) (G : Tree) → Both e G
both e = by_measure size (Both e) (λ G ih. record {
  ceiling = λ x s. elim (left-is e G x s) [
    | of_equal i ↦ (x +ℤ x, ceiling-along e G (num e x) (x +ℤ x) i (number-ceiling e x), (omega (arith, ints), omega (arith, ints)))
    | of_other n h ↦ ceiling_step (HasRightStop e) e G x n h (λ L l. (ih L (size-left G L l)).floor)
  ];
  floor = λ x s. elim (right-is e G x s) [
    | of_equal i ↦ (x +ℤ x, floor-along e G (num e x) (x +ℤ x) i (number-floor e x), (omega (arith, ints), omega (arith, ints)))
    | of_other n h ↦ floor_step (HasLeftStop e) e G x n h (λ R r. (ih R (size-right G R r)).ceiling)
  ];
})

pub left-bounds : (e : ℕ) (G : Tree) (x : ℤ) → HasLeftStop e G x → (d : ℕ) (y : ℤ) → pos 0 <ℤ y → (G ≤ᵍ num (d + e) ((x *ℤ pos (2 ^ d)) +ℤ y)) × (G ≤ᵍ num (d + e) ((x *ℤ pos (2 ^ d)) -ℤ y) → ⊥)
left-bounds e G x s d y p = let c = (both e G).ceiling x s in (under-ceiling e G x c d y p, not-under_ceiling e G x c d y p)

pub right-bounds : (e : ℕ) (G : Tree) (x : ℤ) → HasRightStop e G x → (d : ℕ) (y : ℤ) → pos 0 <ℤ y → (num (d + e) ((x *ℤ pos (2 ^ d)) -ℤ y) ≤ᵍ G) × (num (d + e) ((x *ℤ pos (2 ^ d)) +ℤ y) ≤ᵍ G → ⊥)
right-bounds e G x s d y p = let c = (both e G).floor x s in (over-floor e G x c d y p, not-over_floor e G x c d y p)

-- a quarter above a number over 2 ^ e, and a quarter below
abbrev high : ℕ → ℤ → Tree
high e x = num (2 + e) ((x *ℤ pos (2 ^ 2)) +ℤ pos 1)

abbrev low : ℕ → ℤ → Tree
low e x = num (2 + e) ((x *ℤ pos (2 ^ 2)) -ℤ pos 1)

left-quarter : (e : ℕ) (G : Tree) (x : ℤ) → HasLeftStop e G x → (G ≤ᵍ high e x) × (G ≤ᵍ low e x → ⊥)
left-quarter e G x s = left-bounds e G x s 2 (pos 1) (omega (arith, ints))

right-quarter : (e : ℕ) (G : Tree) (x : ℤ) → HasRightStop e G x → (low e x ≤ᵍ G) × (high e x ≤ᵍ G → ⊥)
right-quarter e G x s = right-bounds e G x s 2 (pos 1) (omega (arith, ints))

high-low : (e : ℕ) (x y : ℤ) → x <ℤ y → high e x ≤ᵍ low e y
high-low e x y l = num-le (2 + e) _ _ (omega (arith, ints, l))

-- the order of games is that of their stops
pub stops-keep : (e : ℕ) (G H : Tree) (x y : ℤ) → G ≤ᵍ H → (HasLeftStop e G x → HasLeftStop e H y → x ≤ℤ y) × (HasRightStop e G x → HasRightStop e H y → x ≤ℤ y)
stops-keep e G H x y p = (
  λ s t. by_lt_z y x (λ l. absurd ((left-quarter e G x s).1 (le-trans G H _ p (le-trans H (high e y) (low e x) (left-quarter e H y t).0 (high-low e y x l))))) (λ l. l),
  λ s t. by_lt_z y x (λ l. absurd ((right-quarter e H y t).1 (le-trans _ G H (le-trans (high e y) (low e x) G (high-low e y x l) (right-quarter e G x s).0) p))) (λ l. l),
)

pub right-less : (e : ℕ) (G : Tree) (l r : ℤ) → HasLeftStop e G l → HasRightStop e G r → r ≤ℤ l
right-less e G l r s t = by_lt_z l r
    (λ b. absurd (num-lt (2 + e) _ _ (omega (arith, ints, b)) (le-trans (low e r) G (high e l) (right-quarter e G r t).0 (left-quarter e G l s).0)))
    (λ b. b)

-- what the signs of stops tell
zero-le : (f : ℕ) (k : ℤ) → pos 0 ≤ℤ k → nought ≤ᵍ num f k
zero-le f k l = subst (λ t. t ≤ᵍ num f k) (num-zero f) (num-le f (pos 0) k l)

le-zero : (f : ℕ) (k : ℤ) → k ≤ℤ pos 0 → num f k ≤ᵍ nought
le-zero f k l = subst (λ t. num f k ≤ᵍ t) (num-zero f) (num-le f k (pos 0) l)

not-le_zero : (f : ℕ) (k : ℤ) → pos 0 <ℤ k → num f k ≤ᵍ nought → ⊥
not-le_zero f k l p = num-lt f (pos 0) k l (subst (λ t. num f k ≤ᵍ t) (sym (num-zero f)) p)

not-zero_le : (f : ℕ) (k : ℤ) → k <ℤ pos 0 → nought ≤ᵍ num f k → ⊥
not-zero_le f k l p = num-lt f k (pos 0) l (subst (λ t. t ≤ᵍ num f k) (sym (num-zero f)) p)

pub signs-tell : (e : ℕ) (G : Tree) (x : ℤ) → SignsTell e G x
signs-tell e G x = record {
  positive = λ s l. (let a = (right-quarter e G x s).0 in (
    le-trans nought (low e x) G (zero-le (2 + e) _ (omega (arith, ints, l))) a,
    not-le G nought (λ p. not-le_zero (2 + e) _ (omega (arith, ints, l)) (le-trans (low e x) G nought a p)),
  ));
  negative = λ s l. (let a = (left-quarter e G x s).0 in (
    le-trans G (high e x) nought a (le-zero (2 + e) _ (omega (arith, ints, l))),
    not-le nought G (λ p. not-zero_le (2 + e) _ (omega (arith, ints, l)) (le-trans nought G (high e x) p a)),
  ));
  left_first = λ s l. not-le G nought (λ p. (left-quarter e G x s).1 (le-trans G nought (low e x) p (zero-le (2 + e) _ (omega (arith, ints, l)))));
  right_first = λ s l. not-le nought G (λ p. (right-quarter e G x s).1 (le-trans (high e x) nought G (le-zero (2 + e) _ (omega (arith, ints, l))) p));
}

-- the negative of a number, and of the one of two that a third is
number-turned : (e : ℕ) (G : Tree) (x : ℤ) → G ≡ᵍ num e x → neg G ≡ᵍ num e (neg_ℤ x)
number-turned e G x s = rw (← neg-num e x) (neg-le (num e x) G s.1, neg-le G (num e x) s.0)

opposite : (y z x : ℤ) → (y ≡ x) ⊎ (z ≡ x) → (neg_ℤ y ≡ neg_ℤ x) ⊎ (neg_ℤ z ≡ neg_ℤ x)
opposite y z x c = elim c [ inl i ↦ inl (ap neg_ℤ i) | inr i ↦ inr (ap neg_ℤ i) ]

-- the negative has the stops turned
mutual
  unfolding HasLeftStop neg

  left-turned : (e : ℕ) (G : Tree) (x : ℤ) → HasLeftStop e G x → HasRightStop e (neg G) (neg_ℤ x)
  left-turned e (node ls rs) x (inl s) = inl (number-turned e (node ls rs) x s)
  left-turned e (node ls rs) x (inr h) = inr (λ i. h.0 (neg-number (node ls rs) i), greatest-turned e ls x h.1)

  right-turned : (e : ℕ) (G : Tree) (x : ℤ) → HasRightStop e G x → HasLeftStop e (neg G) (neg_ℤ x)
  right-turned e (node ls rs) x (inl s) = inl (number-turned e (node ls rs) x s)
  right-turned e (node ls rs) x (inr h) = inr (λ i. h.0 (neg-number (node ls rs) i), least-turned e rs x h.1)

  greatest-turned : (e : ℕ) (Gs : Trees) (x : ℤ) → HasGreatestRight e Gs x → HasLeastLeft e (neg_each Gs) (neg_ℤ x)
  greatest-turned e none x h = h
  greatest-turned e (more G none) x h = right-turned e G x h
  greatest-turned e (more G (more H Hs)) x (y, (z, p, q, a, b, c)) = (
    neg_ℤ y,
    (neg_ℤ z, right-turned e G y p, greatest-turned e (more H Hs) z q, omega (arith, ints, a), omega (arith, ints, b), opposite y z x c),
  )

  least-turned : (e : ℕ) (Gs : Trees) (x : ℤ) → HasLeastLeft e Gs x → HasGreatestRight e (neg_each Gs) (neg_ℤ x)
  least-turned e none x h = h
  least-turned e (more G none) x h = left-turned e G x h
  least-turned e (more G (more H Hs)) x (y, (z, p, q, a, b, c)) = (
    neg_ℤ y,
    (neg_ℤ z, left-turned e G y p, least-turned e (more H Hs) z q, omega (arith, ints, a), omega (arith, ints, b), opposite y z x c),
  )

pub stops-turn : (e : ℕ) (G : Tree) (x : ℤ) → (HasLeftStop e G x ↔ HasRightStop e (neg G) (neg_ℤ x)) × (HasRightStop e G x ↔ HasLeftStop e (neg G) (neg_ℤ x))
stops-turn e G x = let back : neg_ℤ (neg_ℤ x) ≡ x = omega (arith, ints) in (
  (left-turned e G x, λ s. rw (neg-neg G, back) at (right-turned e (neg G) (neg_ℤ x) s)),
  (right-turned e G x, λ s. rw (neg-neg G, back) at (left-turned e (neg G) (neg_ℤ x) s)),
)

-- on a grid of half the distance a stop is twice as far from 0
number-finer : (e : ℕ) (G : Tree) (x : ℤ) → G ≡ᵍ num e x → G ≡ᵍ num (suc e) (x +ℤ x)
number-finer e G x s = subst (λ t. G ≡ᵍ t) (sym (num-double e x)) s

twice : (y z x : ℤ) → (y ≡ x) ⊎ (z ≡ x) → (y +ℤ y ≡ x +ℤ x) ⊎ (z +ℤ z ≡ x +ℤ x)
twice y z x c = elim c [ inl i ↦ inl (ap (λ w. w +ℤ w) i) | inr i ↦ inr (ap (λ w. w +ℤ w) i) ]

mutual
  unfolding HasLeftStop

  left-finer : (e : ℕ) (G : Tree) (x : ℤ) → HasLeftStop e G x → HasLeftStop (suc e) G (x +ℤ x)
  left-finer e (node ls rs) x (inl s) = inl (number-finer e (node ls rs) x s)
  left-finer e (node ls rs) x (inr h) = inr (h.0, greatest-finer e ls x h.1)

  right-finer : (e : ℕ) (G : Tree) (x : ℤ) → HasRightStop e G x → HasRightStop (suc e) G (x +ℤ x)
  right-finer e (node ls rs) x (inl s) = inl (number-finer e (node ls rs) x s)
  right-finer e (node ls rs) x (inr h) = inr (h.0, least-finer e rs x h.1)

  greatest-finer : (e : ℕ) (Gs : Trees) (x : ℤ) → HasGreatestRight e Gs x → HasGreatestRight (suc e) Gs (x +ℤ x)
  greatest-finer e none x h = h
  greatest-finer e (more G none) x h = right-finer e G x h
  greatest-finer e (more G (more H Hs)) x (y, (z, p, q, a, b, c)) = (
    y +ℤ y,
    (z +ℤ z, right-finer e G y p, greatest-finer e (more H Hs) z q, omega (arith, ints, a), omega (arith, ints, b), twice y z x c),
  )

  least-finer : (e : ℕ) (Gs : Trees) (x : ℤ) → HasLeastLeft e Gs x → HasLeastLeft (suc e) Gs (x +ℤ x)
  least-finer e none x h = h
  least-finer e (more G none) x h = left-finer e G x h
  least-finer e (more G (more H Hs)) x (y, (z, p, q, a, b, c)) = (
    y +ℤ y,
    (z +ℤ z, left-finer e G y p, least-finer e (more H Hs) z q, omega (arith, ints, a), omega (arith, ints, b), twice y z x c),
  )

-- and so on a grid of any power of two
finer_by : (P : ℕ → ℤ → Type 0) → ((e : ℕ) (x : ℤ) → P e x → P (suc e) (x +ℤ x)) → (d e : ℕ) (x : ℤ) → P e x → P (d + e) (x *ℤ pos (2 ^ d))
finer_by P step zero e x p =
    let same : x ≡ x *ℤ pos (2 ^ 0) = grind (arith, ints) in
    let grid : e ≡ 0 + e = omega arith in
    subst (λ n. P n (x *ℤ pos (2 ^ 0))) grid (subst (P e) same p)
finer_by P step (suc d) e x p =
    let same : x *ℤ pos (2 ^ suc d) ≡ (x *ℤ pos (2 ^ d)) +ℤ (x *ℤ pos (2 ^ d)) = times-twice x (2 ^ d) (2 ^ suc d) (omega (arith, pow-suc 2 d)) in
    let grid : suc (d + e) ≡ suc d + e = omega arith in
    subst (λ n. P n (x *ℤ pos (2 ^ suc d))) grid (subst (P (suc (d + e))) (sym same) (step (d + e) (x *ℤ pos (2 ^ d)) (finer_by P step d e x p)))

pub stops-go_on : (d e : ℕ) (G : Tree) (x : ℤ) → (HasLeftStop e G x → HasLeftStop (d + e) G (x *ℤ pos (2 ^ d))) × (HasRightStop e G x → HasRightStop (d + e) G (x *ℤ pos (2 ^ d)))
stops-go_on d e G x = (
  finer_by (λ n y. HasLeftStop n G y) (λ n y. left-finer n G y) d e x,
  finer_by (λ n y. HasRightStop n G y) (λ n y. right-finer n G y) d e x,
)

-- a canonical tree is equal to a number where it is the number's tree
agrees : (e : ℕ) (G : Tree) (x : ℤ) → IsCanonicalTree G → (A B : Type 0) → A ↔ B → ((G ≡ num e x) ⊎ ((IsNumberTree G → ⊥) × A)) ↔ ((G ≡ᵍ num e x) ⊎ ((IsNumber G → ⊥) × B))
agrees e G x c A B i = (
  λ h. elim h [ inl p ↦ inl (same-path G (num e x) p) | inr q ↦ inr (λ n. q.0 (n.0, n.1, canonical-number G c n), i.0 q.1) ],
  λ h. elim h [ inl p ↦ inl (canonical-number G c (e, x, p.0, p.1)) | inr q ↦ inr (λ n. (let s = same-path G (num n.0 n.1) n.2 in q.0 (n.0, n.1, s.0, s.1)), i.1 q.1) ],
)

-- of a canonical tree these are its stops
mutual
  unfolding HasLeftStop IsLeftStop

  pub left-agrees : (e : ℕ) (G : Tree) (x : ℤ) → IsCanonicalTree G → IsLeftStop e G x ↔ HasLeftStop e G x
  left-agrees e (node ls rs) x c = agrees e (node ls rs) x c _ _ (greatest-agrees e ls x c.1)

  pub right-agrees : (e : ℕ) (G : Tree) (x : ℤ) → IsCanonicalTree G → IsRightStop e G x ↔ HasRightStop e G x
  right-agrees e (node ls rs) x c = agrees e (node ls rs) x c _ _ (least-agrees e rs x c.2)

  greatest-agrees : (e : ℕ) (Gs : Trees) (x : ℤ) → AreCanonical TextBefore Gs → IsGreatestRight e Gs x ↔ HasGreatestRight e Gs x
  greatest-agrees e none x c = (λ h. h, λ h. h)
  greatest-agrees e (more G none) x c = right-agrees e G x c.0
  greatest-agrees e (more G (more H Hs)) x c = (
    λ (y, (z, p, q, a, b, d)). (y, (z, (right-agrees e G y c.0).0 p, (greatest-agrees e (more H Hs) z c.1).0 q, a, b, d)),
    λ (y, (z, p, q, a, b, d)). (y, (z, (right-agrees e G y c.0).1 p, (greatest-agrees e (more H Hs) z c.1).1 q, a, b, d)),
  )

  least-agrees : (e : ℕ) (Gs : Trees) (x : ℤ) → AreCanonical TextBefore Gs → IsLeastLeft e Gs x ↔ HasLeastLeft e Gs x
  least-agrees e none x c = (λ h. h, λ h. h)
  least-agrees e (more G none) x c = left-agrees e G x c.0
  least-agrees e (more G (more H Hs)) x c = (
    λ (y, (z, p, q, a, b, d)). (y, (z, (left-agrees e G y c.0).0 p, (least-agrees e (more H Hs) z c.1).0 q, a, b, d)),
    λ (y, (z, p, q, a, b, d)). (y, (z, (left-agrees e G y c.0).1 p, (least-agrees e (more H Hs) z c.1).1 q, a, b, d)),
  )

-- what a game with a number before it leaves to another
take-away : (f : ℕ) (a b : ℤ) (G H : Tree) → num f a ≤ᵍ G → G +ᵍ H ≤ᵍ num f b → H ≤ᵍ num f (neg_ℤ a +ℤ b)
take-away f a b G H p q =
    let zero : nought ≤ᵍ num f (neg_ℤ a) +ᵍ num f a = subst (λ t. t ≤ᵍ num f (neg_ℤ a) +ᵍ num f a) (ap (num f) (omega (arith, ints)) ∙ num-zero f) (num-le_plus f (neg_ℤ a) a) in
    let beside : num f a +ᵍ H ≤ᵍ num f b = le-trans _ _ _ (plus-le (num f a) G H p) q in
    let more_of : H ≤ᵍ num f (neg_ℤ a) +ᵍ (num f a +ᵍ H) = rw (← plus-assoc (num f (neg_ℤ a)) (num f a) H) (subst (λ t. t ≤ᵍ (num f (neg_ℤ a) +ᵍ num f a) +ᵍ H) (nought-plus H) (plus-le nought _ H zero)) in
    le-trans _ _ _ more_of (le-trans _ _ _ (plus-le_both _ _ _ _ (le-refl (num f (neg_ℤ a))) beside) (num-plus_le f (neg_ℤ a) b))

-- the left stop of a sum is at most the sum of the left stops, and at least that of a right and a left stop
left-most : (e : ℕ) (G H : Tree) (l k s : ℤ) → HasLeftStop e G l → HasLeftStop e H k → HasLeftStop e (G +ᵍ H) s → s ≤ℤ (l +ℤ k)
left-most e G H l k s p q r = by_lt_z (l +ℤ k) s
    (λ b. absurd ((left-quarter e (G +ᵍ H) s r).1 (le-trans _ _ _ (plus-le_both G (high e l) H (high e k) (left-quarter e G l p).0 (left-quarter e H k q).0)
    (le-trans _ _ _ (num-plus_le (2 + e) _ _) (num-le (2 + e) _ _ (omega (arith, ints, b)))))))
    (λ b. b)

left-over : (e : ℕ) (G H : Tree) (r l s : ℤ) → HasRightStop e G r → HasLeftStop e H l → G +ᵍ H ≤ᵍ high e s → (r +ℤ l) ≤ℤ s
left-over e G H r l s p q y = by_lt_z s (r +ℤ l)
    (λ b. absurd ((left-quarter e H l q).1 (le-trans H _ _ (take-away (2 + e) _ _ G H (right-quarter e G r p).0 y) (num-le (2 + e) _ _ (omega (arith, ints, b))))))
    (λ b. b)

over-second : (e : ℕ) (G H : Tree) (l r s : ℤ) → HasLeftStop e G l → HasRightStop e H r → HasLeftStop e (G +ᵍ H) s → (l +ℤ r) ≤ℤ s
over-second e G H l r s p q t = let a : (r +ℤ l) ≤ℤ s = left-over e H G r l s q p (le-trans _ _ _ (plus-comm H G) (left-quarter e (G +ᵍ H) s t).0) in
    omega (arith, ints, a)

-- negatives of sums
right-sum_turned : (e : ℕ) (G H : Tree) (t : ℤ) → HasRightStop e (G +ᵍ H) t → HasLeftStop e (neg G +ᵍ neg H) (neg_ℤ t)
right-sum_turned e G H t s = subst (λ K. HasLeftStop e K (neg_ℤ t)) (neg-plus G H) (right-turned e (G +ᵍ H) t s)

pub stops-of_sums : (e : ℕ) (G H : Tree) (l r l' r' s t : ℤ) → HaveStops e G H l r l' r' s t → StopsBound l r l' r' s t
stops-of_sums e G H l r l' r' s t h =
    let a = right-turned e G r h.right_first in
    let b = right-turned e H r' h.right_second in
    let c = right-sum_turned e G H t h.right_sum in
    let most = left-most e (neg G) (neg H) (neg_ℤ r) (neg_ℤ r') (neg_ℤ t) a b c in
    let first = left-over e (neg G) (neg H) (neg_ℤ l) (neg_ℤ r') (neg_ℤ t) (left-turned e G l h.left_first) b (left-quarter e _ _ c).0 in
    let second = over-second e (neg G) (neg H) (neg_ℤ r) (neg_ℤ l') (neg_ℤ t) a (left-turned e H l' h.left_second) c in
    record {
      left_at_most = left-most e G H l l' s h.left_first h.left_second h.left_sum;
      left_over_first = left-over e G H r l' s h.right_first h.left_second (left-quarter e (G +ᵍ H) s h.left_sum).0;
      left_over_second = over-second e G H l r' s h.left_first h.right_second h.left_sum;
      right_at_least = omega (arith, ints, most);
      right_under_first = omega (arith, ints, second);
      right_under_second = omega (arith, ints, first);
    }

-- with a number added
left-translated : (e : ℕ) (G X : Tree) (x y z : ℤ) → X ≡ᵍ num e y → HasLeftStop e G x → HasLeftStop e (G +ᵍ X) z → z ≡ x +ℤ y
left-translated e G X x y z i s t =
    let a = left-most e G X x y z s (number-has_left e X y i) t in
    let b = over-second e G X x y z s (number-has_right e X y i) t in
    omega (arith, ints, a, b)

pub stops-translate : (e : ℕ) (G X : Tree) (x y z : ℤ) → X ≡ᵍ num e y
    → (HasLeftStop e G x → HasLeftStop e (G +ᵍ X) z → z ≡ x +ℤ y) × (HasRightStop e G x → HasRightStop e (G +ᵍ X) z → z ≡ x +ℤ y)
stops-translate e G X x y z i = (
  left-translated e G X x y z i,
  λ s t. (let a = left-translated e (neg G) (neg X) (neg_ℤ x) (neg_ℤ y) (neg_ℤ z) (number-turned e X y i) (right-turned e G x s) (right-sum_turned e G X z t) in omega (arith, ints, a)),
)

-- each game is a number or none
pub number-or_not : (G : Tree) → IsNumber G ⊎ (IsNumber G → ⊥)
number-or_not G =
    let c = canon TextBefore text-order.total G in
    let e = size c.tree + size c.tree in
    let z = walls-zero e (left_wall e) (right_wall e) c.tree (walls-exist (size c.tree) e c.tree (omega arith) (c.canonical, over-size c.tree)) in
    elim (left_stop-is e c.tree _ z.0) [
      | of_number i ↦ inl (e, left_wall e c.tree 0, subst (λ t. G ≤ᵍ t) i c.under, subst (λ t. t ≤ᵍ G) i c.over)
      | of_game n h ↦ inr (λ k. n (k.0, k.1, canonical-number c.tree c.canonical (k.0, k.1, le-trans c.tree G _ c.over k.2, le-trans _ G c.tree k.3 c.under)))
    ]

-- what holds of each tree of a list from some place on, holds of all from some place on
from-some : (Q : ℕ → Tree → Type 0) (Gs : Trees) → ((G : Tree) → Has Gs G → (e : ℕ) × ((k : ℕ) → e ≤ k → Q k G)) → (e : ℕ) × ((k : ℕ) → e ≤ k → (G : Tree) → Has Gs G → Q k G)
from-some Q none f = (0, λ k l G h. absurd h)
from-some Q (more G Gs) f =
    let r = f G (inl refl) in
    let s = from-some Q Gs (λ X x. f X (inr x)) in
    (r.0 + s.0, λ k l X h. elim h [ inl i ↦ subst (Q k) (sym i) (r.1 k (omega (arith, l))) | inr x ↦ s.1 k (omega (arith, l)) X x ])

abbrev HasStops : ℕ → Tree → Type 0
HasStops k G = (l r : ℤ) × HasLeftStop k G l × HasRightStop k G r

stops_step : (G : Tree) → ((X : Tree) → size X < size G → (e : ℕ) × ((k : ℕ) → e ≤ k → HasStops k X)) → (e : ℕ) × ((k : ℕ) → e ≤ k → HasStops k G)
stops_step G ih = elim (number-or_not G) [
  | inl (e, m, p, q) ↦ (
    e,
    λ k l. (let n : ℤ = m *ℤ pos (2 ^ (k - e)) in
        let i : num e m ≡ num k n = sym (num-scaled (k - e) e m) ∙ ap (λ j. num j n) (omega (arith, l)) in
        let s : G ≡ᵍ num k n = (subst (λ t. G ≤ᵍ t) i p, subst (λ t. t ≤ᵍ G) i q) in
        (n, n, number-has_left k G n s, number-has_right k G n s)),
  )
  | inr n ↦ (let a = from-some HasStops (left G) (λ L h. ih L (size-left G L h)) in
      let b = from-some HasStops (right G) (λ R h. ih R (size-right G R h)) in
      let c = cheap_left G n 0 (pos 1) (omega (arith, ints)) in
      let d = cheap_right G n 0 (pos 1) (omega (arith, ints)) in (
        a.0 + b.0,
        λ k l. (
            let x = chosen _ upwards _ _ (greatest-chosen k) (λ X x. X ≡ X) (left G) (λ L h. (let s = a.1 k (omega (arith, l)) L h in (s.1, s.3, refl))) c.0 c.1 in
            let y = chosen _ downwards _ _ (least-chosen k) (λ X x. X ≡ X) (right G) (λ R h. (let s = b.1 k (omega (arith, l)) R h in (s.0, s.2, refl))) d.0 d.1 in
            (x.0, y.0, game-has_left k G x.0 n x.1, game-has_right k G y.0 n y.1)),
      ))
]

pub stops-exist : (G : Tree) → (e : ℕ) × ((k : ℕ) → e ≤ k → HasStops k G)
stops-exist = by_measure size (λ G. (e : ℕ) × ((k : ℕ) → e ≤ k → HasStops k G)) stops_step
