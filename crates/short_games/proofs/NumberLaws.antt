-- Numbers: their options, their order, their sums, and games that are none.
use Rattle.std.proofs.Common.{ℕ, zero, suc, ◌+◌, ◌<◌, ◌≡◌, arith, refl, inl, inr, sym, subst, ◌∙◌, ap, ℤ, pos, negsuc, ◌+ℤ◌, ◌≤ℤ◌, ◌<ℤ◌, neg_ℤ, true, false}
use Rattle.std.proofs.lemmas.Bool.{eqb-true, eqb-false, true_from_ne_false, false_from_ne_true, cases_Bool}
use Rattle.short_games.specs.Tree.{Tree, node, none, more, left, right, Has, size, neg}
use Rattle.short_games.specs.Order.{◌≤ᵍ◌}
use Rattle.short_games.specs.Sum.{◌+ᵍ◌}
use Rattle.short_games.specs.Number.{half, is_even, count_tree, whole, num, IsNumber}
use Rattle.short_games.proofs.OrderLaws.{by_measure, le-out, le-in, le-refl, le-trans, size-left, size-right}
use Rattle.short_games.proofs.SumLaws.{left_of_sum, InSum, right_in_first, right_in_second, plus-le, plus-le_both, plus-assoc, plus-nought, has-neg_each, neg-left, neg-plus, neg-neg, neg-le}
use Rattle.short_games.proofs.SumLaws.InSum.{in_first, in_second}
use Rattle.std.proofs.lemmas.Int.{ints, by_lt_z}

pub half-even : (m : ℤ) → is_even m ≡ true → m ≡ half m +ℤ half m
half-even (pos n) e = omega (arith, ints, eqb-true _ _ e)
half-even (negsuc n) e = omega (arith, ints, eqb-true _ _ e)

pub half-odd : (m : ℤ) → is_even m ≡ false → m ≡ half m +ℤ half m +ℤ pos 1
half-odd (pos n) e = omega (arith, ints, eqb-false _ _ e)
half-odd (negsuc n) e = omega (arith, ints, eqb-false _ _ e)

pub is_even-double : (k : ℤ) → is_even (k +ℤ k) ≡ true
is_even-double k = true_from_ne_false _ (λ e. omega (arith, ints, half-odd (k +ℤ k) e))

pub half-double : (k : ℤ) → half (k +ℤ k) ≡ k
half-double k = omega (arith, ints, half-even (k +ℤ k) (is_even-double k))

-- a number over a greater power of two
pub num-double : (e : ℕ) (k : ℤ) → num (suc e) (k +ℤ k) ≡ num e k
unfolding num
num-double e k = rw (is_even-double k, half-double k)

pub num-even : (e : ℕ) (m : ℤ) → is_even m ≡ true → num (suc e) m ≡ num e (half m)
unfolding num
num-even e m h = rw h

pub num-odd : (e : ℕ) (m : ℤ) → is_even m ≡ false → num (suc e) m ≡ node (more (num e (half m)) none) (more (num e (half m +ℤ pos 1)) none)
unfolding num
num-odd e m h = rw h

-- the options of an integer
pub whole-left : (m : ℤ) (X : Tree) → Has (left (whole m)) X → (k : ℤ) × (k <ℤ m) × (X ≡ whole k)
unfolding whole count_tree neg
whole-left (pos zero) X h = elim h [ ]
whole-left (pos (suc n)) X (inl e) = (pos n, omega (arith, ints), e)
whole-left (pos (suc n)) X (inr h) = elim h [ ]
whole-left (negsuc n) X h = elim h [ ]

pub whole-has_left : (m : ℤ) → pos 0 <ℤ m → (k : ℤ) × (k +ℤ pos 1 ≡ m) × Has (left (whole m)) (whole k)
unfolding whole count_tree neg
whole-has_left (pos zero) h = absurd (omega (arith, ints))
whole-has_left (pos (suc n)) h = (pos n, omega (arith, ints), inl refl)
whole-has_left (negsuc n) h = absurd (omega (arith, ints))

pub whole-has_right : (m : ℤ) → m <ℤ pos 0 → (k : ℤ) × (m +ℤ pos 1 ≡ k) × Has (right (whole m)) (whole k)
unfolding whole count_tree neg
whole-has_right (pos n) h = absurd (omega (arith, ints))
whole-has_right (negsuc zero) h = (pos zero, omega (arith, ints), inl refl)
whole-has_right (negsuc (suc n)) h = (negsuc n, omega (arith, ints), inl refl)

pub even-neg : (m : ℤ) → is_even m ≡ true → (is_even (neg_ℤ m) ≡ true) × (half (neg_ℤ m) ≡ neg_ℤ (half m))
even-neg m t = let even : is_even (neg_ℤ m) ≡ true = true_from_ne_false _ (λ f. omega (arith, ints, half-even m t, half-odd (neg_ℤ m) f)) in
    (even, omega (arith, ints, half-even m t, half-even (neg_ℤ m) even))

pub odd-neg : (m : ℤ) → is_even m ≡ false → (is_even (neg_ℤ m) ≡ false) × (half (neg_ℤ m) ≡ neg_ℤ (half m +ℤ pos 1)) × (half (neg_ℤ m) +ℤ pos 1 ≡ neg_ℤ (half m))
odd-neg m f = let odd : is_even (neg_ℤ m) ≡ false = false_from_ne_true _ (λ t. omega (arith, ints, half-odd m f, half-even (neg_ℤ m) t)) in
    (odd, omega (arith, ints, half-odd m f, half-odd (neg_ℤ m) odd), omega (arith, ints, half-odd m f, half-odd (neg_ℤ m) odd))

pub neg-num : (e : ℕ) (m : ℤ) → neg (num e m) ≡ num e (neg_ℤ m)
unfolding num whole neg count_tree
neg-num zero (pos zero) = refl
neg-num zero (pos (suc n)) = refl
neg-num zero (negsuc n) = neg-neg (count_tree (suc n))
neg-num (suc e) m = elim (cases_Bool (is_even m)) [
  | inl t ↦ ap neg (num-even e m t) ∙ neg-num e (half m) ∙ (let r = even-neg m t in rw (num-even e (neg_ℤ m) r.0, r.1))
  | inr f ↦ ap neg (num-odd e m f) ∙ (let r = odd-neg m f in rw (num-odd e (neg_ℤ m) r.0, r.2, r.1, ← neg-num e (half m), ← neg-num e (half m +ℤ pos 1)))
]

-- a number at least 0 has no Right option
pub no-right : (n : ℕ) (X : Tree) → Has (right (count_tree n)) X → ⊥
unfolding count_tree
no-right zero X h = h
no-right (suc n) X h = h

-- every option of a number is a number, below it for Left and above it for Right
pub num-left : (e : ℕ) (m : ℤ) (X : Tree) → Has (left (num e m)) X → (k : ℤ) × (k <ℤ m) × (X ≡ num e k)
unfolding num
num-left zero m X h = whole-left m X h
num-left (suc e) m X h = elim (cases_Bool (is_even m)) [
  | inl t ↦ (let r = num-left e (half m) X (rw (num-even e m t) at h) in (r.0 +ℤ r.0, omega (arith, ints, half-even m t, r.1), r.2 ∙ sym (num-double e r.0)))
  | inr f ↦ elim (rw (num-odd e m f) at h) [
    | inl x ↦ (half m +ℤ half m, omega (arith, ints, half-odd m f), x ∙ sym (num-double e (half m)))
    | inr x ↦ absurd x
  ]
]

-- turned, a Right option of a number is a Left option of its negative
pub num-turned : (e : ℕ) (m : ℤ) (X : Tree) → Has (right (num e m)) X → Has (left (num e (neg_ℤ m))) (neg X)
num-turned e m X h = subst (λ t. Has (left t) (neg X)) (neg-num e m) (rw (neg-left (num e m)) (has-neg_each (right (num e m)) X h))

pub num-right : (e : ℕ) (m : ℤ) (X : Tree) → Has (right (num e m)) X → (k : ℤ) × (m <ℤ k) × (X ≡ num e k)
num-right e m X h = let r = num-left e (neg_ℤ m) (neg X) (num-turned e m X h) in
    (neg_ℤ r.0, omega (arith, ints, r.1), sym (neg-neg X) ∙ ap neg r.2 ∙ neg-num e r.0)

-- where two numbers add up to less than a third, one of the three has an option that still is on its side
pub data Gap (e : ℕ) (m n k : ℤ) : Type 0 where
  down : (k' : ℤ) → Has (left (num e k)) (num e k') → (m +ℤ n) ≤ℤ k' → Gap e m n k
  up_first : (m' : ℤ) → Has (right (num e m)) (num e m') → (m' +ℤ n) ≤ℤ k → Gap e m n k
  up_second : (n' : ℤ) → Has (right (num e n)) (num e n') → (m +ℤ n') ≤ℤ k → Gap e m n k

odd_up : (e : ℕ) (m : ℤ) → is_even m ≡ false → (k : ℤ) × (m +ℤ pos 1 ≡ k) × Has (right (num (suc e) m)) (num (suc e) k)
odd_up e m f = ((half m +ℤ pos 1) +ℤ (half m +ℤ pos 1), omega (arith, ints, half-odd m f), rw (num-odd e m f) (inl (num-double e (half m +ℤ pos 1))))

even_right : (e : ℕ) (m k : ℤ) → is_even m ≡ true → Has (right (num e (half m))) (num e k) → Has (right (num (suc e) m)) (num (suc e) (k +ℤ k))
even_right e m k t h = rw (num-even e m t, num-double e k) h

pub gap : (e : ℕ) (m n k : ℤ) → (m +ℤ n) <ℤ k → Gap e m n k
unfolding num
gap zero m n k h = by_lt_z (pos 0) k (λ a. (let r = whole-has_left k a in down r.0 r.2 (omega (arith, ints, r.1))))
    (λ a. by_lt_z m (pos 0) (λ b. (let r = whole-has_right m b in up_first r.0 r.2 (omega (arith, ints, r.1))))
    (λ b. (let r = whole-has_right n (omega (arith, ints)) in up_second r.0 r.2 (omega (arith, ints, r.1)))))
gap (suc e) m n k h = elim (cases_Bool (is_even k)) [
  | inr f ↦ down (half k +ℤ half k) (rw (num-odd e k f) (inl (num-double e (half k)))) (omega (arith, ints, half-odd k f))
  | inl kt ↦ elim (cases_Bool (is_even m)) [
    | inr f ↦ (let r = odd_up e m f in up_first r.0 r.2 (omega (arith, ints, r.1)))
    | inl mt ↦ elim (cases_Bool (is_even n)) [
      | inr f ↦ (let r = odd_up e n f in up_second r.0 r.2 (omega (arith, ints, r.1)))
      | inl nt ↦ elim (gap e (half m) (half n) (half k) (omega (arith, ints, half-even m mt, half-even n nt, half-even k kt))) [
        | down k' x y ↦ down (k' +ℤ k') (rw (num-even e k kt, num-double e k') x)
            (omega (arith, ints, half-even m mt, half-even n nt, half-even k kt))
        | up_first m' x y ↦ up_first (m' +ℤ m') (even_right e m m' mt x) (omega (arith, ints, half-even m mt, half-even n nt, half-even k kt))
        | up_second n' x y ↦ up_second (n' +ℤ n') (even_right e n n' nt x) (omega (arith, ints, half-even m mt, half-even n nt, half-even k kt))
      ]
    ]
  ]
]

-- sums of numbers over one power of two go by the sums of what stands above
abbrev pub GoesBy : (e : ℕ) (m n k : ℤ) → Type 0
GoesBy e m n k = ((m +ℤ n) ≤ℤ k → num e m +ᵍ num e n ≤ᵍ num e k) × ((m +ℤ n) <ℤ k → num e k ≤ᵍ num e m +ᵍ num e n → ⊥)

abbrev pub weight : (e : ℕ) (m n k : ℤ) → ℕ
weight e m n k = size (num e m) + size (num e n) + size (num e k)

sum_step : (e : ℕ) (m n k : ℤ) → ((m' n' k' : ℤ) → weight e m' n' k' < weight e m n k → GoesBy e m' n' k') → GoesBy e m n k
sum_step e m n k ih = (
  λ p. le-in _ _ record {
    from_left = λ X h. lefts p X (left_of_sum (num e m) (num e n) X h);
    from_right = λ X h y. (let r = num-right e k X h in (ih m n r.0 (omega (arith, size-right (num e k) X h, ap size r.2))).1 (omega (arith, ints, r.1)) (rw r.2 at y));
  },
  λ p y. elim (gap e m n k p) [
    | down k' h b ↦ (le-out _ _ y).from_left (num e k') h ((ih m n k' (omega (arith, size-left (num e k) _ h))).0 b)
    | up_first m' h b ↦ (le-out _ _ y).from_right (num e m' +ᵍ num e n) (right_in_first _ _ _ h) ((ih m' n k (omega (arith, size-right (num e m) _ h))).0 b)
    | up_second n' h b ↦ (le-out _ _ y).from_right (num e m +ᵍ num e n') (right_in_second _ _ _ h) ((ih m n' k (omega (arith, size-right (num e n) _ h))).0 b)
  ],
)
  where
    lefts : (m +ℤ n) ≤ℤ k → (X : Tree) → InSum (num e m) (num e n) (left (num e m)) (left (num e n)) X → num e k ≤ᵍ X → ⊥
    lefts p X (in_first K h) y = let r = num-left e m K h in (ih r.0 n k (omega (arith, size-left (num e m) K h, ap size r.2))).1 (omega (arith, ints, r.1)) (rw r.2 at y)
    lefts p X (in_second K h) y = let r = num-left e n K h in (ih m r.0 k (omega (arith, size-left (num e n) K h, ap size r.2))).1 (omega (arith, ints, r.1)) (rw r.2 at y)

pub goes_by : (e : ℕ) (m n k : ℤ) → GoesBy e m n k
goes_by e m n k = by_measure {A = ℤ × ℤ × ℤ} (λ p. weight e p.0 p.1 p.2) (λ p. GoesBy e p.0 p.1 p.2)
    (λ p ih. sum_step e p.0 p.1 p.2 (λ x y z l. ih (x, y, z) l)) (m, n, k)

pub num-zero : (e : ℕ) → num e (pos 0) ≡ node none none
unfolding num whole count_tree
num-zero zero = refl
num-zero (suc e) = num-zero e

-- the order of numbers over one power of two
pub num-le : (e : ℕ) (m n : ℤ) → m ≤ℤ n → num e m ≤ᵍ num e n
num-le e m n p = rw (num-zero e, plus-nought (num e m)) at ((goes_by e m (pos 0) n).0 (omega (arith, ints)))

pub num-lt : (e : ℕ) (m n : ℤ) → m <ℤ n → num e n ≤ᵍ num e m → ⊥
num-lt e m n p = rw (num-zero e, plus-nought (num e m)) at ((goes_by e m (pos 0) n).1 (omega (arith, ints)))

-- the sum of two numbers
pub num-plus_le : (e : ℕ) (m n : ℤ) → num e m +ᵍ num e n ≤ᵍ num e (m +ℤ n)
num-plus_le e m n = (goes_by e m n (m +ℤ n)).0 (omega (arith, ints))

pub num-le_plus : (e : ℕ) (m n : ℤ) → num e (m +ℤ n) ≤ᵍ num e m +ᵍ num e n
num-le_plus e m n = rw (neg-plus, neg-num e (neg_ℤ m), neg-num e (neg_ℤ n), neg-num, back m, back n, both) at (neg-le (num e (neg_ℤ m) +ᵍ num e (neg_ℤ n)) (num e (neg_ℤ m +ℤ neg_ℤ n)) (num-plus_le e (neg_ℤ m) (neg_ℤ n)))
  where
    back : (a : ℤ) → neg_ℤ (neg_ℤ a) ≡ a
    back a = omega (arith, ints)

    both : neg_ℤ (neg_ℤ m +ℤ neg_ℤ n) ≡ m +ℤ n
    both = omega (arith, ints)

-- beside a game that is no number, a number's own options don't matter
pub avoid-le : (G : Tree) → (IsNumber G → ⊥) → (e : ℕ) (m : ℤ) → ((L : Tree) → Has (left G) L → num e m ≤ᵍ L → ⊥) → G ≤ᵍ num e m
avoid-le G no_number e =
    by_measure (λ m. size (num e m)) (λ m. ((L : Tree) → Has (left G) L → num e m ≤ᵍ L → ⊥) → G ≤ᵍ num e m) (λ m ih h. le-in _ _ record {
      from_left = h;
      from_right = λ X x y. (let r = num-right e m X x in
          no_number (e, r.0, ih r.0 (omega (arith, size-right (num e m) X x, ap size r.2)) (λ L l z. h L l (le-trans _ _ _ (num-le e m r.0 (omega (arith, ints, r.1))) z)), rw r.2 at y));
    })

pub avoid-ge : (G : Tree) → (IsNumber G → ⊥) → (e : ℕ) (m : ℤ) → ((R : Tree) → Has (right G) R → R ≤ᵍ num e m → ⊥) → num e m ≤ᵍ G
avoid-ge G no_number e =
    by_measure (λ m. size (num e m)) (λ m. ((R : Tree) → Has (right G) R → R ≤ᵍ num e m → ⊥) → num e m ≤ᵍ G) (λ m ih h. le-in _ _ record {
      from_left = λ X x y. (let r = num-left e m X x in
          no_number (e, r.0, rw r.2 at y, ih r.0 (omega (arith, size-left (num e m) X x, ap size r.2)) (λ R k z. h R k (le-trans _ _ _ z (num-le e r.0 m (omega (arith, ints, r.1)))))));
      from_right = h;
    })

-- games and their negatives beside numbers
pub neg-number : (G : Tree) → IsNumber (neg G) → IsNumber G
neg-number G n = (n.0, neg_ℤ n.1, rw (neg-num n.0 n.1, neg-neg G) at (neg-le _ _ n.3), rw (neg-num n.0 n.1, neg-neg G) at (neg-le _ _ n.2))

-- a number's move on one side, and two that add up to a third on the other
pub num-shift : (A B : Tree) (e : ℕ) (d k m : ℤ) → A ≤ᵍ B +ᵍ num e d → d +ℤ k ≡ m → A +ᵍ num e k ≤ᵍ B +ᵍ num e m
num-shift A B e d k m p i = le-trans _ _ _ (plus-le A (B +ᵍ num e d) (num e k) p)
    (rw (plus-assoc B (num e d) (num e k)) (plus-le_both B B _ _ (le-refl B) (subst (λ z. num e d +ᵍ num e k ≤ᵍ num e z) i (num-plus_le e d k))))
