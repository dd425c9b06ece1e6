-- The simplest number that fits a form is the form's value.
use Rattle.std.proofs.Common.{ℕ, zero, suc, ◌+◌, ◌-◌, ◌*◌, ◌^◌, ◌<◌, ◌≤◌, ◌≡◌, ◌⊎◌, List, length, arith, refl, sym, ◌∙◌, inl, inr, ap, subst, ℤ, pos, negsuc, ◌+ℤ◌, ◌<ℤ◌, Some, None, false}
use Rattle.std.specs.Prelude.{Option, unsigned_abs}
use Rattle.std.proofs.lemmas.Int.{ints, by_lt_z}
use Rattle.std.proofs.lemmas.Bool.{cases_Bool}
use Rattle.std.proofs.lemmas.Nat.{pow-add}
use Rattle.std.proofs.Math.Nat.{mul_assoc}
use Rattle.dyadic_num.specs.Units.{IsAboveBound, IsBelowBound, IsMultiple, IsSimplest, IsInside}
use Rattle.short_games.specs.Tree.{Tree, none, more, left, right, Has, neg}
use Rattle.short_games.specs.Number.{num, IsNumber, whole, count_tree, half, is_even}
use Rattle.short_games.specs.Order.{◌≤ᵍ◌}
use Rattle.short_games.specs.Threshold.{IsCell, IsFloor, IsCeiling}
use Rattle.short_games.specs.Simplest.{FitsForm}
use Rattle.short_games.proofs.OrderLaws.{le-trans}
use Rattle.short_games.proofs.NumberLaws.{num-even, num-odd, num-double, num-lt, half-even, half-odd}
use Rattle.short_games.proofs.ThresholdLaws.{cell, half-cell, simplest-is, equal-fits}
use Rattle.game_store.specs.Meaning.{listed}
use Rattle.game_store.proofs.EntryLaws.{has-pick, pick-has}
use Rattle.game_canon.specs.Outcomes.{AreOptionsWithin}
use Rattle.game_canon.proofs.NumberSizeLaws.{simplest-within}
use Rattle.game_canon.proofs.ThresholdLaws.{form-floor, form-ceiling, lower-near, upper-near}
use Rattle.game_canon.specs.inner.Bounds.{AreAllWithin, HasFloorUpTo, HasCeilingFrom, AreAllFrom, AreAllUpTo, AreFloorRange, AreCeilingRange, IsValue, IsWorth, lower, upper}
use Rattle.game_canon.specs.declared.thresholds.Value.{Value}
use Rattle.game_canon.specs.declared.thresholds.Value.TheVariants.{Number, PastBounds, NoNumber}

-- v is simpler than u: a multiple of a greater power of two, or else no coarser and of a lesser size
Simpler : ℕ → ℤ → ℤ → Type 0
Simpler e u v = ((k : ℕ) × (k ≤ e) × IsMultiple (2 ^ k) v × (IsMultiple (2 ^ k) u → ⊥)) ⊎ (((k : ℕ) → k ≤ e → IsMultiple (2 ^ k) u → IsMultiple (2 ^ k) v) × (unsigned_abs v < unsigned_abs u))

double-multiple : (k : ℕ) (v : ℤ) → IsMultiple (2 ^ k) v → IsMultiple (2 ^ suc k) (v +ℤ v)
double-multiple k v m = (m.0, twice (unsigned_abs v) (unsigned_abs (v +ℤ v)) (m.0 * 2 ^ k) (m.0 * 2 ^ suc k) (omega (arith, ints)) m.1 (ap (λ n. m.0 * n) (let e : 2 ^ suc k ≡ 2 ^ k * 2 = omega arith in e) ∙ sym (mul_assoc m.0 (2 ^ k) 2)))
  where
    twice : (a b c d : ℕ) → b ≡ a + a → a ≡ c → d ≡ c * 2 → b ≡ d
    twice a b c d p q r = omega arith

half-multiple : (k : ℕ) (v : ℤ) → IsMultiple (2 ^ suc k) (v +ℤ v) → IsMultiple (2 ^ k) v
half-multiple k v m = (m.0, twice (unsigned_abs v) (unsigned_abs (v +ℤ v)) (m.0 * 2 ^ k) (m.0 * 2 ^ suc k) (omega (arith, ints)) m.1 (ap (λ n. m.0 * n) (let e : 2 ^ suc k ≡ 2 ^ k * 2 = omega arith in e) ∙ sym (mul_assoc m.0 (2 ^ k) 2)))
  where
    twice : (a b c d : ℕ) → b ≡ a + a → b ≡ d → d ≡ c * 2 → a ≡ c
    twice a b c d p q r = omega arith

one-multiple : (v : ℤ) → IsMultiple (2 ^ 0) v
one-multiple v = (unsigned_abs v, omega arith)

doubled : (e : ℕ) (u v : ℤ) → Simpler e u v → Simpler (suc e) (u +ℤ u) (v +ℤ v)
unfolding Simpler
doubled e u v (inl s) = inl (suc s.0, omega (arith, s.1), double-multiple s.0 v s.2, λ m. s.3 (half-multiple s.0 u m))
doubled e u v (inr s) = inr (at, omega (arith, ints, s.1))
  where
    at : (k : ℕ) → k ≤ suc e → IsMultiple (2 ^ k) (u +ℤ u) → IsMultiple (2 ^ k) (v +ℤ v)
    at zero b m = one-multiple (v +ℤ v)
    at (suc k) b m = double-multiple k v (s.0 k (omega arith) (half-multiple k u m))

even-simpler : (e : ℕ) (m v : ℤ) → is_even m ≡ false → v ≡ half m +ℤ half m ⊎ v ≡ (half m +ℤ pos 1) +ℤ (half m +ℤ pos 1) → Simpler (suc e) m v
unfolding Simpler
even-simpler e m v f w = inl (1, omega arith, even w, λ k. omega (arith, ints, half-odd m f, k.1))
  where
    even : v ≡ half m +ℤ half m ⊎ v ≡ (half m +ℤ pos 1) +ℤ (half m +ℤ pos 1) → IsMultiple (2 ^ 1) v
    even (inl e) = (unsigned_abs (half m), omega (arith, ints, e))
    even (inr e) = (unsigned_abs (half m +ℤ pos 1), omega (arith, ints, e))

-- an option of a number is a simpler number
record IsSimplerOption (e : ℕ) (m : ℤ) (X : Tree) : Type 0 where
  value : ℤ
  is : X ≡ num e value
  simpler : Simpler e m value

zero-simpler : (m v : ℤ) → unsigned_abs v < unsigned_abs m → Simpler 0 m v
unfolding Simpler
zero-simpler m v l = inr (λ k b _. subst (λ n. IsMultiple (2 ^ n) v) (let e : 0 ≡ k = omega arith in e) (one-multiple v), l)

option-simpler : (e : ℕ) (m : ℤ) (X : Tree) → Has (left (num e m)) X ⊎ Has (right (num e m)) X → IsSimplerOption e m X
unfolding num whole count_tree neg
option-simpler zero (pos zero) X (inl h) = absurd h
option-simpler zero (pos zero) X (inr h) = absurd h
option-simpler zero (pos (suc n)) X (inl (inl e)) = record { value = pos n; is = e; simpler = zero-simpler (pos (suc n)) (pos n) (omega arith) }
option-simpler zero (pos (suc n)) X (inl (inr h)) = absurd h
option-simpler zero (pos (suc n)) X (inr h) = absurd h
option-simpler zero (negsuc n) X (inl h) = absurd h
option-simpler zero (negsuc zero) X (inr (inl e)) = record { value = pos zero; is = e; simpler = zero-simpler (negsuc zero) (pos zero) (omega (arith, ints)) }
option-simpler zero (negsuc zero) X (inr (inr h)) = absurd h
option-simpler zero (negsuc (suc n)) X (inr (inl e)) = record { value = negsuc n; is = e; simpler = zero-simpler (negsuc (suc n)) (negsuc n) (omega (arith, ints)) }
option-simpler zero (negsuc (suc n)) X (inr (inr h)) = absurd h
option-simpler (suc e) m X h = elim (cases_Bool (is_even m)) [
  | inl t ↦ (let r = option-simpler e (half m) X (subst (λ t. Has (left t) X ⊎ Has (right t) X) (num-even e m t) h) in record {
    value = r.value +ℤ r.value;
    is = r.is ∙ sym (num-double e r.value);
    simpler = subst (λ z. Simpler (suc e) z (r.value +ℤ r.value)) (sym (half-even m t)) (doubled e (half m) r.value r.simpler);
  })
  | inr f ↦ odd f (subst (λ t. Has (left t) X ⊎ Has (right t) X) (num-odd e m f) h)
]
  where
    odd : is_even m ≡ false → Has (more (num e (half m)) none) X ⊎ Has (more (num e (half m +ℤ pos 1)) none) X → IsSimplerOption (suc e) m X
    odd f (inl (inl i)) = record { value = half m +ℤ half m; is = i ∙ sym (num-double e (half m)); simpler = even-simpler e m _ f (inl refl) }
    odd f (inl (inr i)) = absurd i
    odd f (inr (inl i)) = record { value = (half m +ℤ pos 1) +ℤ (half m +ℤ pos 1); is = i ∙ sym (num-double e (half m +ℤ pos 1)); simpler = even-simpler e m _ f (inr refl) }
    odd f (inr (inr i)) = absurd i

none-simpler : (e : ℕ) (P : ℤ → Type 0) (u v : ℤ) → IsSimplest e P u → P v → Simpler e u v → ⊥
unfolding Simpler
none-simpler e P u v s p (inl f) = f.3 (s.least_exponent v p f.0 f.1 f.2)
none-simpler e P u v s p (inr f) = omega (arith, s.least_size v p f.0, f.1)

-- what passes where bounds may be absent
abbrev Passes : Option ℤ → Option ℤ → ℤ → Type 0
Passes low high v = IsAboveBound low v × IsBelowBound high v

-- past the ends, a whole number of a lesser size is inside
record IsPast (low high v : ℤ) : Type 0 where
  size : 2 ^ 121 ≤ unsigned_abs v
  other : ℤ
  inside : IsInside low high other
  other_size : unsigned_abs other ≡ 2 ^ 121

inside-or-past : (low high : Option ℤ) → AreFloorRange low → AreCeilingRange high → (v : ℤ) → Passes low high v → IsInside (lower low) (upper high) v ⊎ IsPast (lower low) (upper high) v
inside-or-past (Some x) (Some y) a b v p = inl p
inside-or-past None (Some y) a b v p = by_lt_z (negsuc (2 ^ 121)) v (λ l. inl (l, p.1)) (λ l. inr (record { size = omega (arith, ints, l); other = negsuc (2 ^ 121 - 1); inside = (omega (arith, ints), omega (arith, ints, b.0)); other_size = refl }))
inside-or-past (Some x) None a b v p = by_lt_z v (pos (2 ^ 121 + 1)) (λ l. inl (p.0, l)) (λ l. inr (record { size = omega (arith, ints, l); other = pos (2 ^ 121); inside = (omega (arith, ints, a.1), omega (arith, ints)); other_size = refl }))
inside-or-past None None a b v p = by_lt_z (negsuc (2 ^ 121)) v
    (λ l. by_lt_z v (pos (2 ^ 121 + 1)) (λ k. inl (l, k)) (λ k. inr (record { size = omega (arith, ints, k); other = pos (2 ^ 121); inside = (omega (arith, ints), omega (arith, ints)); other_size = refl })))
    (λ l. inr (record { size = omega (arith, ints, l); other = negsuc (2 ^ 121 - 1); inside = (omega (arith, ints), omega (arith, ints)); other_size = refl }))

great-multiple : (v : ℤ) → unsigned_abs v ≡ 2 ^ 121 → (k : ℕ) → k ≤ 61 → IsMultiple (2 ^ k) v
great-multiple v e k b = (2 ^ (121 - k), e ∙ ap (λ n. 2 ^ n) (let s : 121 ≡ (121 - k) + k = omega (arith, b) in s) ∙ pow-add 2 (121 - k) k)

inside-passes : (low high : Option ℤ) (v : ℤ) → IsInside (lower low) (upper high) v → Passes low high v
inside-passes None None v i = (tt, tt)
inside-passes None (Some y) v i = (tt, i.1)
inside-passes (Some x) None v i = (i.0, tt)
inside-passes (Some x) (Some y) v i = i

widened : (low high : Option ℤ) (u : ℤ) → AreFloorRange low → AreCeilingRange high → IsSimplest 61 (λ v. IsInside (lower low) (upper high) v) u → IsSimplest 61 (λ v. Passes low high v) u
widened low high u a b s = record {
  passes = inside-passes low high u s.passes;
  least_exponent = λ v p k l m. elim (inside-or-past low high a b v p) [
    | inl i ↦ s.least_exponent v i k l m
    | inr q ↦ s.least_exponent q.other q.inside k l (great-multiple q.other q.other_size k l)
  ];
  least_size = λ v p f. elim (inside-or-past low high a b v p) [
    | inl i ↦ s.least_size v i f
    | inr q ↦ (let g = s.least_size q.other q.inside (λ k l _. great-multiple q.other q.other_size k l) in omega (arith, g, q.other_size, q.size))
  ];
}

module _ (Ts : List Tree) (ls rs : List ℕ) (low high : Option ℤ) (up_to : AreAllUpTo Ts ls (length ls) low) (from : AreAllFrom Ts rs (length rs) high) (low_range : AreFloorRange low) (high_range : AreCeilingRange high) (low_near : (b : ℕ) → AreAllWithin Ts ls (length ls) b → HasFloorUpTo low b) (high_near : (b : ℕ) → AreAllWithin Ts rs (length rs) b → HasCeilingFrom high b) where
  fits-passes : (f : ℕ) (m h : ℤ) → IsCell 60 (num f m) h → FitsForm (listed Ts ls rs) (num f m) → Passes low high h
  fits-passes f m h c w = ((up_to f m h c).0 (λ j l. w.over_left _ (pick-has Ts ls j l)), (from f m h c).0 (λ j l. w.under_right _ (pick-has Ts rs j l)))

  passes-fits : (f : ℕ) (m h : ℤ) → IsCell 60 (num f m) h → Passes low high h → FitsForm (listed Ts ls rs) (num f m)
  passes-fits f m h c p = record {
    over_left = λ L l y. (let r = has-pick Ts ls L l in (up_to f m h c).1 p.0 r.0 r.1 (subst (λ t. num f m ≤ᵍ t) r.2 y));
    under_right = λ R k y. (let r = has-pick Ts rs R k in (from f m h c).1 p.1 r.0 r.1 (subst (λ t. t ≤ᵍ num f m) r.2 y));
  }

  pub is-simplest : (u : ℤ) → IsSimplest 61 (λ v. IsInside (lower low) (upper high) v) u → (listed Ts ls rs ≤ᵍ num 61 u) × (num 61 u ≤ᵍ listed Ts ls rs)
  is-simplest u s = simplest-is (listed Ts ls rs) 61 u (passes-fits 61 u u (half-cell 60 u) w.passes) (λ X x f. no X (inl x) f) (λ X x f. no X (inr x) f)
    where
      w : IsSimplest 61 (λ v. Passes low high v) u
      w = widened low high u low_range high_range s

      no : (X : Tree) → Has (left (num 61 u)) X ⊎ Has (right (num 61 u)) X → FitsForm (listed Ts ls rs) X → ⊥
      no X x f = let o = option-simpler 61 u X x in
          none-simpler 61 (λ v. Passes low high v) u o.value w (fits-passes 61 o.value o.value (half-cell 60 o.value) (subst (FitsForm (listed Ts ls rs)) o.is f)) o.simpler

  room : (h : ℤ) → Passes low high h → (lower low +ℤ pos 1) <ℤ upper high
  room h p = at low high low_range high_range p
    where
      at : (low high : Option ℤ) → AreFloorRange low → AreCeilingRange high → Passes low high h → (lower low +ℤ pos 1) <ℤ upper high
      at None None a b p = omega (arith, ints)
      at None (Some y) a b p = omega (arith, ints, b.0)
      at (Some x) None a b p = omega (arith, ints, a.1)
      at (Some x) (Some y) a b p = omega (arith, ints, p.0, p.1)

  pub no-number-fits : ((lower low +ℤ pos 1) <ℤ upper high → ⊥) → IsNumber (listed Ts ls rs) → ⊥
  no-number-fits h n = let c = cell 60 n.0 n.1 in h (room c.0 (fits-passes n.0 n.1 c.0 c.1 (equal-fits (listed Ts ls rs) (num n.0 n.1) n.2 n.3)))

  near : (u x : ℤ) (b : ℕ) → IsSimplest 61 (λ v. IsInside (lower low) (upper high) v) u → u ≡ x +ℤ x → AreOptionsWithin b (listed Ts ls rs) → unsigned_abs x ≤ b + 2 ^ 60
  near u x b s e w =
      let l = simplest-within (lower low) (upper high) u (b + b) (lower-near low b (low_near b (λ j i. w _ (inl (pick-has Ts ls j i))))) (upper-near high b (high_near b (λ j i. w _ (inr (pick-has Ts rs j i))))) s in
      omega (arith, ints, l, e)

  pub worth : (u : ℤ) (v : Value) → IsSimplest 61 (λ v. IsInside (lower low) (upper high) v) u → IsWorth u v → IsValue (listed Ts ls rs) v
  worth u (Number x) s w = let e = subst (λ t. (listed Ts ls rs ≤ᵍ t) × (t ≤ᵍ listed Ts ls rs)) (ap (num 61) w.0 ∙ num-double 60 x) (is-simplest u s) in (w.1, e.0, e.1, λ b a. near u x b s w.0 a)
  worth u PastBounds s w = let e = is-simplest u s in (
    (61, u, e.0, e.1),
    λ x b p q. w x b (by_lt_z u (x +ℤ x)
        (λ l. absurd (num-lt 61 u (x +ℤ x) l (subst (λ t. t ≤ᵍ num 61 u) (sym (num-double 60 x)) (le-trans (num 60 x) (listed Ts ls rs) (num 61 u) q e.0))))
        (λ l. by_lt_z (x +ℤ x) u
        (λ k. absurd (num-lt 61 (x +ℤ x) u k (subst (λ t. num 61 u ≤ᵍ t) (sym (num-double 60 x)) (le-trans (num 61 u) (listed Ts ls rs) (num 60 x) e.1 p))))
        (λ k. grind (arith, ints)))),
  )
  worth u (NoNumber f c) s w = absurd w

  -- where there is no room, both bounds are there
  pub floor-there : ((lower low +ℤ pos 1) <ℤ upper high → ⊥) → IsFloor 60 (listed Ts ls rs) (upper high +ℤ negsuc 0)
  floor-there h = at high from high_range h
    where
      at : (b : Option ℤ) → AreAllFrom Ts rs (length rs) b → AreCeilingRange b → ((lower low +ℤ pos 1) <ℤ upper b → ⊥) → IsFloor 60 (listed Ts ls rs) (upper b +ℤ negsuc 0)
      at None a r f = absurd (f (wide low low_range))
        where
          wide : (b : Option ℤ) → AreFloorRange b → (lower b +ℤ pos 1) <ℤ upper None
          wide None r = omega (arith, ints)
          wide (Some x) r = omega (arith, ints, r.1)
      at (Some k) a r f = form-floor Ts ls rs k (no-number-fits h) a

  pub ceiling-there : ((lower low +ℤ pos 1) <ℤ upper high → ⊥) → IsCeiling 60 (listed Ts ls rs) (lower low +ℤ pos 1)
  ceiling-there h = at low up_to low_range h
    where
      at : (b : Option ℤ) → AreAllUpTo Ts ls (length ls) b → AreFloorRange b → ((lower b +ℤ pos 1) <ℤ upper high → ⊥) → IsCeiling 60 (listed Ts ls rs) (lower b +ℤ pos 1)
      at None a r f = absurd (f (wide high high_range))
        where
          wide : (b : Option ℤ) → AreCeilingRange b → (lower None +ℤ pos 1) <ℤ upper b
          wide None r = omega (arith, ints)
          wide (Some y) r = omega (arith, ints, r.0)
      at (Some k) a r f = form-ceiling Ts ls rs k (no-number-fits h) a
