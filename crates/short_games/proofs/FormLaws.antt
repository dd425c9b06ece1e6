-- What may be done to a form: options exchanged for better ones, reversible options replaced, numbers found, numbers added.
use Rattle.std.proofs.Common.{ℕ, zero, suc, ◌<◌, ◌≡◌, ◌⊎◌, arith, refl, inl, inr, sym, ◌∙◌, ap, subst, ℤ, pos, negsuc, ◌+ℤ◌, ◌<ℤ◌, neg_ℤ}
use Rattle.std.proofs.lemmas.Int.{ints}
use Rattle.std.proofs.lemmas.Bool.{cases_Bool}
use Rattle.short_games.specs.Tree.{Tree, Trees, node, none, more, left, right, Has, size, neg, neg_each}
use Rattle.short_games.specs.Order.{◌≤ᵍ◌, by_left, by_right}
use Rattle.short_games.specs.Sum.{◌+ᵍ◌, each_plus}
use Rattle.short_games.specs.Number.{num, IsNumber, half, is_even, whole, count_tree}
use Rattle.short_games.specs.Simplest.{FitsForm}
use Rattle.short_games.specs.Canonical.{Ascends, IsReduced, IsCanonical, AreCanonical}
use Rattle.short_games.proofs.OrderLaws.{IsSide, by_measure, le-in, le-refl, le-trans, size-left, size-right, not-le, le-or_not}
use Rattle.short_games.proofs.SumLaws.{left_of_sum, right_of_sum, left_in_first, right_in_first, InSum, has-each_plus, each_plus-has, not_le_left, not_right_le, neg-neg, neg-right, has-neg_each}
use Rattle.short_games.proofs.SumLaws.InSum.{in_first, in_second}
use Rattle.short_games.proofs.NumberLaws.{no-right, num-turned, num-shift, num-left, num-right, num-le, num-lt, num-double, num-even, num-odd, half-even, half-odd, neg-num}
use Rattle.short_games.proofs.CanonicalLaws.{canonical-unique}

-- a game whose Left options are each at most one of another's, and the other way round on the right
pub by_better : (G H : Tree) → ((L : Tree) → Has (left G) L → (M : Tree) × Has (left H) M × (L ≤ᵍ M)) → ((S : Tree) → Has (right H) S → (R : Tree) × Has (right G) R × (R ≤ᵍ S)) → G ≤ᵍ H
by_better G H f g = le-in G H record {
  from_left = λ L l y. (let m = f L l in not_le_left H m.0 m.1 (le-trans H L m.0 y m.2));
  from_right = λ S s y. (let r = g S s in not_right_le G r.0 r.1 (le-trans r.0 S G r.2 y));
}

-- reversible options replaced: an option of G is one of H or has an answer that is good enough, whose own options are no
-- better than those of H; and an option of H is one of G or of such an answer
pub bypassed : (near far : Tree → Trees) (Le : Tree → Tree → Type 0) (s : IsSide near far Le) (G H : Tree)
    → ((X : Tree) → Has (near G) X
    → Has (near H) X ⊎ ((R : Tree) × Has (far X) R × Le R G × ((Y : Tree) → Has (near R) Y → (Z : Tree) × Has (near H) Z × Le Y Z)))
    → ((X : Tree) → Has (near H) X → Has (near G) X ⊎ ((R : Tree) × Le R G × Has (near R) X)) → far H ≡ far G → Le G H × Le H G
bypassed near far Le s G H kept from others = (
  s.build G H (λ X x y. elim (kept X x) [
    | inl h ↦ s.out_near H H X (s.itself H) h y
    | inr w ↦ s.out_far H X w.0 y w.1 (s.build w.0 H
        (λ Y k z. (let a = w.3 Y k in s.out_near H H a.0 (s.itself H) a.1 (s.trans H Y a.0 z a.2)))
        (λ Y k z. s.out_far G G Y (s.itself G) (subst (λ t. Has t Y) others k) (s.trans Y w.0 G z w.2)))
  ]) (λ X x y. s.out_far G G X (s.itself G) (subst (λ t. Has t X) others x) y),
  s.build H G (λ X x y. elim (from X x) [
    | inl h ↦ s.out_near G G X (s.itself G) h y
    | inr w ↦ s.out_near w.0 w.0 X (s.itself w.0) w.2 (s.trans w.0 G X w.1 y)
  ]) (λ X x y. s.out_far H H X (s.itself H) (subst (λ t. Has t X) (sym others) x) y),
)

-- dominated options dropped: an option of G is no better than one of H, and an option of H is one of G
pub dropped : (near far : Tree → Trees) (Le : Tree → Tree → Type 0) (s : IsSide near far Le) (G H : Tree)
    → ((X : Tree) → Has (near G) X → (Y : Tree) × Has (near H) Y × Le X Y) → ((X : Tree) → Has (near H) X → Has (near G) X) → far H ≡ far G
    → Le G H × Le H G
dropped near far Le s G H covered from others = (
  s.build G H (λ X x y. (let c = covered X x in s.out_near H H c.0 (s.itself H) c.1 (s.trans H X c.0 y c.2)))
      (λ X x y. s.out_far G G X (s.itself G) (subst (λ t. Has t X) others x) y),
  s.build H G (λ X x y. s.out_near G G X (s.itself G) (from X x) y) (λ X x y. s.out_far H H X (s.itself H)
      (subst (λ t. Has t X) (sym others) x) y),
)

-- a game with a number between its options is a number
number_step : (G : Tree) (e : ℕ) (z : ℤ) → ((y : ℤ) → size (num e y) < size (num e z) → FitsForm G (num e y) → IsNumber G) → FitsForm G (num e z)
    → IsNumber G
number_step G e z ih f = elim (le-or_not G (num e z)) [
  | inr h ↦ elim (not-le G (num e z) h) [
    | by_left L l y ↦ absurd (f.over_left L l y)
    | by_right X x y ↦ (let r = num-right e z X x in ih r.0 (omega (arith, size-right (num e z) X x, ap size r.2)) record {
      over_left = λ L l w. f.over_left L l (le-trans _ _ _ (num-le e z r.0 (omega (arith, ints, r.1))) w);
      under_right = λ R k w. not_right_le G R k (le-trans R (num e r.0) G w (subst (λ t. t ≤ᵍ G) r.2 y));
    })
  ]
  | inl p ↦ elim (le-or_not (num e z) G) [
    | inl q ↦ (e, z, p, q)
    | inr h ↦ elim (not-le (num e z) G h) [
      | by_left X x y ↦ (let r = num-left e z X x in ih r.0 (omega (arith, size-left (num e z) X x, ap size r.2)) record {
        over_left = λ L l w. not_le_left G L l (le-trans G (num e r.0) L (subst (λ t. G ≤ᵍ t) r.2 y) w);
        under_right = λ R k w. f.under_right R k (le-trans _ _ _ w (num-le e r.0 z (omega (arith, ints, r.1))));
      })
      | by_right R r y ↦ absurd (f.under_right R r y)
    ]
  ]
]

pub number_between : (G : Tree) (e : ℕ) (z : ℤ) → ((L : Tree) → Has (left G) L → num e z ≤ᵍ L → ⊥) → ((R : Tree) → Has (right G) R → R ≤ᵍ num e z → ⊥) → IsNumber G
number_between G e z f g =
    by_measure (λ y. size (num e y)) (λ y. FitsForm G (num e y) → IsNumber G) (number_step G e) z record { over_left = f; under_right = g }

-- an answer to an option of a number goes past the number
answer_left : (e : ℕ) (m : ℤ) (L R : Tree) → Has (left (num e m)) L → Has (right L) R → (k : ℤ) × (m <ℤ k) × (R ≡ num e k)
unfolding num whole count_tree neg
answer_left zero (pos zero) L R l r = absurd l
answer_left zero (pos (suc n)) L R (inl l) r = absurd (no-right n R (subst (λ t. Has (right t) R) l r))
answer_left zero (pos (suc n)) L R (inr l) r = absurd l
answer_left zero (negsuc n) L R l r = absurd l
answer_left (suc e) m L R l r = elim (cases_Bool (is_even m)) [
  | inl t ↦ (let k = answer_left e (half m) L R (rw (num-even e m t) at l) r in (k.0 +ℤ k.0, omega (arith, ints, half-even m t, k.1), k.2 ∙ sym (num-double e k.0)))
  | inr f ↦ elim (rw (num-odd e m f) at l) [
    | inl i ↦ (let k = num-right e (half m) R (subst (λ t. Has (right t) R) i r) in (k.0 +ℤ k.0, omega (arith, ints, half-odd m f, k.1), k.2 ∙ sym (num-double e k.0)))
    | inr i ↦ absurd i
  ]
]

answer_right : (e : ℕ) (m : ℤ) (R L : Tree) → Has (right (num e m)) R → Has (left R) L → (k : ℤ) × (k <ℤ m) × (L ≡ num e k)
answer_right e m R L r l = let k = answer_left e (neg_ℤ m) (neg R) (neg L) (num-turned e m R r) (rw (neg-right R) (has-neg_each (left R) L l)) in
    (neg_ℤ k.0, omega (arith, ints, k.1), sym (neg-neg L) ∙ ap neg k.2 ∙ neg-num e k.0)

-- a number has at most one option on each side
abbrev IsShort : Trees → Type 0
IsShort none = Unit {0}
IsShort (more G none) = Unit {0}
IsShort (more G (more H Hs)) = ⊥

short_left : (e : ℕ) (m : ℤ) → IsShort (left (num e m))
unfolding num whole count_tree neg
short_left zero (pos zero) = tt
short_left zero (pos (suc n)) = tt
short_left zero (negsuc n) = tt
short_left (suc e) m = elim (cases_Bool (is_even m)) [
  | inl t ↦ rw (num-even e m t) (short_left e (half m))
  | inr f ↦ rw (num-odd e m f) tt
]

short-neg : (Gs : Trees) → IsShort Gs → IsShort (neg_each Gs)
unfolding neg
short-neg none s = tt
short-neg (more G none) s = tt
short-neg (more G (more H Hs)) s = absurd s

short_right : (e : ℕ) (m : ℤ) → IsShort (right (num e m))
short_right e m = let back : neg_ℤ (neg_ℤ m) ≡ m = omega (arith, ints) in
    subst IsShort (sym (neg-right (num e (neg_ℤ m))) ∙ ap right (neg-num e (neg_ℤ m) ∙ ap (num e) back)) (short-neg (left (num e (neg_ℤ m))) (short_left e (neg_ℤ m)))

only : (Gs : Trees) (A B : Tree) → IsShort Gs → Has Gs A → Has Gs B → A ≡ B
only none A B s a b = absurd a
only (more G none) A B s a b = elim a [ inl i ↦ elim b [ inl j ↦ i ∙ sym j | inr j ↦ absurd j ] | inr i ↦ absurd i ]
only (more G (more H Hs)) A B s a b = absurd s

module _ (Before : Tree → Tree → Type 0) where
  num-reduced : (e : ℕ) (m : ℤ) → Ascends Before (left (num e m)) → Ascends Before (right (num e m)) → IsReduced Before (num e m)
  num-reduced e m la ra = record {
    left_free = λ A B a b _. only _ A B (short_left e m) a b;
    right_free = λ A B a b _. only _ A B (short_right e m) a b;
    left_kept = λ L R l r y. (let k = answer_left e m L R l r in num-lt e m k.0 k.1 (subst (λ t. t ≤ᵍ num e m) k.2 y));
    right_kept = λ R L r l y. (let k = answer_right e m R L r l in num-lt e k.0 m k.1 (subst (λ t. num e m ≤ᵍ t) k.2 y));
    left_ascends = la;
    right_ascends = ra;
  }

  short-ascends : (Gs : Trees) → IsShort Gs → Ascends Before Gs
  short-ascends none s = tt
  short-ascends (more G none) s = tt
  short-ascends (more G (more H Hs)) s = absurd s

  pub canonical-from : (G : Tree) → IsReduced Before G → AreCanonical Before (left G) → AreCanonical Before (right G) → IsCanonical Before G
  canonical-from (node ls rs) r a b = (r, a, b)

  pub all-canonical : (Gs : Trees) → ((X : Tree) → Has Gs X → IsCanonical Before X) → AreCanonical Before Gs
  all-canonical none f = tt
  all-canonical (more G Gs) f = (f G (inl refl), all-canonical Gs (λ X x. f X (inr x)))

  pub num-canonical : (e : ℕ) (m : ℤ) → IsCanonical Before (num e m)
  num-canonical e = by_measure (λ m. size (num e m)) (λ m. IsCanonical Before (num e m)) (λ m ih.
      canonical-from (num e m) (num-reduced e m (short-ascends _ (short_left e m)) (short-ascends _ (short_right e m)))
      (all-canonical _ (λ X x. (let k = num-left e m X x in subst (IsCanonical Before) (sym k.2) (ih k.0 (omega (arith, size-left (num e m) X x, ap size k.2))))))
      (all-canonical _ (λ X x. (let k = num-right e m X x in subst (IsCanonical Before) (sym k.2) (ih k.0 (omega (arith, size-right (num e m) X x, ap size k.2)))))))

  -- a canonical tree that is equal to a number is the number's tree
  pub number_tree : (irreflexive : (G : Tree) → Before G G → ⊥) (transitive : (G H K : Tree) → Before G H → Before H K → Before G K) (G : Tree) → IsCanonical Before G → ((e : ℕ) (m : ℤ) → G ≡ num e m → ⊥) → IsNumber G → ⊥
  number_tree irreflexive transitive G c f n = f n.0 n.1 (canonical-unique Before irreflexive transitive G (num n.0 n.1) c (num-canonical n.0 n.1) n.2 n.3)

-- Translation: what is asked is that a number's moves lose a little more than some move in the game
pub translation : (e : ℕ) (G : Tree) (m : ℤ) → ((d : ℤ) → pos 0 <ℤ d → (L : Tree) × Has (left G) L × (G ≤ᵍ L +ᵍ num e d)) → ((d : ℤ) → pos 0 <ℤ d → (R : Tree) × Has (right G) R × (R ≤ᵍ G +ᵍ num e d))
    → (G +ᵍ num e m ≤ᵍ node (each_plus (left G) (num e m)) (each_plus (right G) (num e m))) × (node (each_plus (left G) (num e m)) (each_plus (right G) (num e m)) ≤ᵍ G +ᵍ num e m)
translation e G m cheap cheap' = (
  by_better _ _ (λ L l. lefts L (left_of_sum G (num e m) L l)) (λ S s. (let r = each_plus-has (right G) (num e m) S s in (S, subst (λ t. Has (right (G +ᵍ num e m)) t) (sym r.2) (right_in_first G (num e m) r.0 r.1), le-refl S))),
  by_better _ _ (λ L l. (let r = each_plus-has (left G) (num e m) L l in (L, subst (λ t. Has (left (G +ᵍ num e m)) t) (sym r.2) (left_in_first G (num e m) r.0 r.1), le-refl L))) (λ S s. rights S (right_of_sum G (num e m) S s)),
)
  where
    lefts : (L : Tree) → InSum G (num e m) (left G) (left (num e m)) L → (M : Tree) × Has (each_plus (left G) (num e m)) M × (L ≤ᵍ M)
    lefts L (in_first K k) = (K +ᵍ num e m, has-each_plus (left G) (num e m) K k, le-refl (K +ᵍ num e m))
    lefts L (in_second K k) = let r = num-left e m K k in
        let c = cheap (m +ℤ neg_ℤ r.0) (omega (arith, ints, r.1)) in (
          c.0 +ᵍ num e m,
          has-each_plus (left G) (num e m) c.0 c.1,
          subst (λ t. G +ᵍ t ≤ᵍ c.0 +ᵍ num e m) (sym r.2) (num-shift G c.0 e (m +ℤ neg_ℤ r.0) r.0 m c.2 (omega (arith, ints))),
        )

    rights : (S : Tree) → InSum G (num e m) (right G) (right (num e m)) S → (R : Tree) × Has (each_plus (right G) (num e m)) R × (R ≤ᵍ S)
    rights S (in_first K k) = (K +ᵍ num e m, has-each_plus (right G) (num e m) K k, le-refl (K +ᵍ num e m))
    rights S (in_second K k) = let r = num-right e m K k in
        let c = cheap' (r.0 +ℤ neg_ℤ m) (omega (arith, ints, r.1)) in (
          c.0 +ᵍ num e m,
          has-each_plus (right G) (num e m) c.0 c.1,
          subst (λ t. c.0 +ᵍ num e m ≤ᵍ G +ᵍ t) (sym r.2) (num-shift c.0 G e (r.0 +ℤ neg_ℤ m) m r.0 c.2 (omega (arith, ints))),
        )
