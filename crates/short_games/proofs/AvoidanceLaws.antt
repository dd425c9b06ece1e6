-- Number avoidance: a game that is no number has a move that loses next to nothing, so no move in a number is needed.
use Rattle.std.proofs.Common.{ℕ, zero, suc, ◌+◌, ◌≤◌, ◌≡◌, arith, refl, inl, inr, sym, ◌∙◌, ap, subst, ℤ, pos, negsuc, ◌+ℤ◌, ◌<ℤ◌, neg_ℤ}
use Rattle.std.proofs.lemmas.Int.{ints}
use Rattle.short_games.specs.Tree.{Tree, node, Trees, none, more, left, right, Has, size, neg}
use Rattle.short_games.specs.Order.{◌≤ᵍ◌}
use Rattle.short_games.specs.Sum.{◌+ᵍ◌, total}
use Rattle.short_games.specs.Number.{num, whole, IsNumber}
use Rattle.short_games.specs.Moves.{LeftMoves, RightMoves, LeftWins, RightWins}
use Rattle.short_games.specs.NumberLaws.{AreNoNumbers}
use Rattle.short_games.proofs.ReductionLaws.{canonical-number}
use Rattle.short_games.proofs.OrderLaws.{le-in, le-trans, le-refl, size-left, size-pos, none-or_some, le-or_not}
use Rattle.short_games.proofs.SumLaws.{same-swap, plus-nought, neg-le, neg-neg, neg-plus, neg-left, neg_each-has, plus-le, plus-le_both, plus-assoc, left_of_sum, right_of_sum, InSum, nought}
use Rattle.short_games.proofs.SumLaws.InSum.{in_first, in_second}
use Rattle.short_games.proofs.NumberLaws.{no-right, num-zero, num-shift, neg-num, neg-number, num-left, num-right, num-le, num-lt, num-le_plus, avoid-le}
use Rattle.short_games.proofs.ThresholdLaws.{scaled}

-- each game lies between two integers
at-most_integer : (n : ℕ) (G : Tree) → size G ≤ n → G ≤ᵍ num 0 (pos n)
unfolding num whole
at-most_integer zero G a = absurd (omega (arith, a, size-pos G))
at-most_integer (suc n) G a = le-in G (num 0 (pos (suc n))) record {
  from_left = λ L l y. num-lt 0 (pos n) (pos (suc n)) (omega (arith, ints)) (le-trans _ L _ y (at-most_integer n L (omega (arith, a, size-left G L l))));
  from_right = λ X x _. no-right (suc n) X x;
}

upper : (e : ℕ) (G : Tree) → (n : ℕ) × (G ≤ᵍ num e (pos n))
upper e G = let w = scaled e 0 (pos (size G)) in
    at w.0 (subst (λ t. G ≤ᵍ t) (sym w.1 ∙ ap (λ n. num n w.0) (omega arith)) (at-most_integer (size G) G (omega arith)))
  where
    at : (k : ℤ) → G ≤ᵍ num e k → (n : ℕ) × (G ≤ᵍ num e (pos n))
    at (pos n) l = (n, l)
    at (negsuc n) l = (0, le-trans _ _ _ l (num-le e (negsuc n) (pos 0) (omega (arith, ints))))

lower : (e : ℕ) (G : Tree) → (n : ℕ) × (num e (neg_ℤ (pos n)) ≤ᵍ G)
lower e G = let u = upper e (neg G) in (u.0, rw (neg-num e (pos u.0), neg-neg G) at (neg-le (neg G) (num e (pos u.0)) u.1))

module _ (e : ℕ) (G : Tree) where
  -- the least number over 2 ^ e that is at least the game
  record Least : Type 0 where
    at : ℤ
    over : G ≤ᵍ num e (at +ℤ pos 1)
    not_over : G ≤ᵍ num e at → ⊥

  search_up : (n : ℕ) (k : ℤ) → (G ≤ᵍ num e k → ⊥) → G ≤ᵍ num e (k +ℤ pos n) → Least
  search_up zero k a b = absurd (a (subst (λ z. G ≤ᵍ num e z) (omega (arith, ints)) b))
  search_up (suc n) k a b = elim (le-or_not G (num e (k +ℤ pos 1))) [
    | inl t ↦ record { at = k; over = t; not_over = a }
    | inr f ↦ search_up n (k +ℤ pos 1) f (subst (λ z. G ≤ᵍ num e z) (omega (arith, ints)) b)
  ]

  least : Least
  least =
      let u = upper e G in
      let l = lower e G in
      let first = neg_ℤ (pos (suc l.0)) in
      search_up (suc (l.0 + u.0)) first (λ y. num-lt e first (neg_ℤ (pos l.0)) (omega (arith, ints)) (le-trans _ G _ l.1 y))
      (subst (λ z. G ≤ᵍ num e z) (omega (arith, ints)) u.1)

-- a game that is no number loses next to nothing by some move
pub cheap_left : (G : Tree) → (IsNumber G → ⊥) → (e : ℕ) (d : ℤ) → pos 0 <ℤ d → (L : Tree) × Has (left G) L × (G ≤ᵍ L +ᵍ num e d)
cheap_left G no_number e d p = let b = least e G in elim (none-or_some (λ L. num e b.at ≤ᵍ L) (λ L. le-or_not (num e b.at) L) (left G)) [
  | inl t ↦ absurd (b.not_over (avoid-le G no_number e b.at t))
  | inr f ↦ (
    f.0,
    f.1,
    le-trans _ _ _ b.over (le-trans _ _ _ (num-le_plus e b.at (pos 1))
        (plus-le_both (num e b.at) f.0 (num e (pos 1)) (num e d) f.2 (num-le e (pos 1) d (omega (arith, ints, p))))),
  )
]

-- which for Right is a move of Left in the negative
pub cheap_right : (G : Tree) → (IsNumber G → ⊥) → (e : ℕ) (d : ℤ) → pos 0 <ℤ d → (R : Tree) × Has (right G) R × (R ≤ᵍ G +ᵍ num e d)
cheap_right G no_number e d p =
    let c = cheap_left (neg G) (λ n. no_number (neg-number G n)) e d p in
    let r = neg_each-has (right G) c.0 (rw (neg-left G) at c.1) in
    (r.0, r.1, turned r.0 (subst (λ t. neg G ≤ᵍ t +ᵍ num e d) r.2 c.2))
  where
    turned : (R : Tree) → neg G ≤ᵍ neg R +ᵍ num e d → R ≤ᵍ G +ᵍ num e d
    turned R q =
        let p : R +ᵍ num e (neg_ℤ d) ≤ᵍ G =
        rw (neg-plus (neg R) (num e d), neg-neg R, neg-num e d, neg-neg G) at (neg-le (neg G) (neg R +ᵍ num e d) q) in
        let zero : nought ≤ᵍ num e (neg_ℤ d) +ᵍ num e d =
        subst (λ t. t ≤ᵍ num e (neg_ℤ d) +ᵍ num e d) (ap (num e) (omega (arith, ints)) ∙ num-zero e) (num-le_plus e (neg_ℤ d) d) in
        le-trans R ((R +ᵍ num e (neg_ℤ d)) +ᵍ num e d) _
        (rw (plus-assoc R (num e (neg_ℤ d)) (num e d))
        (subst (λ t. t ≤ᵍ R +ᵍ (num e (neg_ℤ d) +ᵍ num e d)) (plus-nought R) (plus-le_both R R nought _ (le-refl R) zero)))
        (plus-le _ G (num e d) p)

-- beside a third game
shift-beside : (A B T : Tree) (e : ℕ) (d k m : ℤ) → A ≤ᵍ B +ᵍ num e d → d +ℤ k ≡ m → (A +ᵍ T) +ᵍ num e k ≤ᵍ (B +ᵍ T) +ᵍ num e m
shift-beside A B T e d k m p i =
    le-trans _ _ _ (same-swap A T (num e k)).0 (le-trans _ _ _ (plus-le _ _ T (num-shift A B e d k m p i)) (same-swap B (num e m) T).0)

-- an option of the sum of a list is the sum of the list after a move
module _ (side : Tree → Trees) (Moves : Trees → Trees → Type 0) (of_sum : (G H X : Tree) → Has (side (G +ᵍ H)) X → InSum G H (side G) (side H) X)
    (of_nought : (X : Tree) → Has (side nought) X → ⊥)
    (here : (G K : Tree) (Gs : Trees) → Has (side G) K → Moves (more G Gs) (more K Gs))
    (there : (G : Tree) (Gs Hs : Trees) → Moves Gs Hs → Moves (more G Gs) (more G Hs)) where
  of_total : (Gs : Trees) (Y : Tree) → Has (side (total Gs)) Y → (Hs : Trees) × Moves Gs Hs × (Y ≡ total Hs)
  unfolding total
  of_total none Y h = absurd (of_nought Y h)
  of_total (more G Gs) Y h = by Y (of_sum G (total Gs) Y h) (of_total Gs)
    where
      by : (Z : Tree) → InSum G (total Gs) (side G) (side (total Gs)) Z → ((W : Tree) → Has (side (total Gs)) W → (Hs : Trees) × Moves Gs Hs × (W ≡ total Hs)) → (Hs : Trees) × Moves (more G Gs) Hs × (Z ≡ total Hs)
      by _ (in_first K k) rest = (more K Gs, here G K Gs k, refl)
      by _ (in_second K k) rest = let r = rest K k in (more G r.0, there G Gs r.0 r.1, ap (λ t. G +ᵍ t) r.2)

-- where a player wins a sum of games and a number, and the first game is no number, the player wins by a move in a game
pub avoid_left : (G : Tree) (Gs : Trees) → (IsNumber G → ⊥) → (e : ℕ) (m : ℤ) (X : Tree) → Has (left (total (more G Gs) +ᵍ num e m)) X → nought ≤ᵍ X → (Hs : Trees) × LeftMoves (more G Gs) Hs × (nought ≤ᵍ total Hs +ᵍ num e m)
unfolding total
avoid_left G Gs no_number e m X h y = by_option X (left_of_sum (total (more G Gs)) (num e m) X h) y
  where
    by_option : (X : Tree) → InSum (total (more G Gs)) (num e m) (left (total (more G Gs))) (left (num e m)) X → nought ≤ᵍ X → (Hs : Trees) × LeftMoves (more G Gs) Hs × (nought ≤ᵍ total Hs +ᵍ num e m)
    by_option X (in_first Y k) y = let r = of_total left LeftMoves left_of_sum (λ _ h. h) (λ A K Gs k. inl (k, refl)) (λ A Gs Hs m. inr (refl, m))
        (more G Gs) Y k in (r.0, r.1, subst (λ t. nought ≤ᵍ t +ᵍ num e m) r.2 y)
    by_option X (in_second K k) y =
        let r = num-left e m K k in
        let c = cheap_left G no_number e (m +ℤ neg_ℤ r.0) (omega (arith, ints, r.1)) in
        let s = shift-beside G c.0 (total Gs) e (m +ℤ neg_ℤ r.0) r.0 m c.2 (omega (arith, ints)) in
        (more c.0 Gs, inl (c.1, refl), le-trans nought _ _ (subst (λ t. nought ≤ᵍ (G +ᵍ total Gs) +ᵍ t) r.2 y) s)

pub avoid_right : (G : Tree) (Gs : Trees) → (IsNumber G → ⊥) → (e : ℕ) (m : ℤ) (X : Tree) → Has (right (total (more G Gs) +ᵍ num e m)) X → X ≤ᵍ nought → (Hs : Trees) × RightMoves (more G Gs) Hs × (total Hs +ᵍ num e m ≤ᵍ nought)
unfolding total
avoid_right G Gs no_number e m X h y = by_option X (right_of_sum (total (more G Gs)) (num e m) X h) y
  where
    by_option : (X : Tree) → InSum (total (more G Gs)) (num e m) (right (total (more G Gs))) (right (num e m)) X → X ≤ᵍ nought → (Hs : Trees) × RightMoves (more G Gs) Hs × (total Hs +ᵍ num e m ≤ᵍ nought)
    by_option X (in_first Y k) y = let r = of_total right RightMoves right_of_sum (λ _ h. h) (λ A K Gs k. inl (k, refl)) (λ A Gs Hs m. inr (refl, m))
        (more G Gs) Y k in (r.0, r.1, subst (λ t. t +ᵍ num e m ≤ᵍ nought) r.2 y)
    by_option X (in_second K k) y =
        let r = num-right e m K k in
        let c = cheap_right G no_number e (r.0 +ℤ neg_ℤ m) (omega (arith, ints, r.1)) in
        let s = shift-beside c.0 G (total Gs) e (r.0 +ℤ neg_ℤ m) m r.0 c.2 (omega (arith, ints)) in
        (more c.0 Gs, inl (c.1, refl), le-trans _ _ nought s (subst (λ t. (G +ᵍ total Gs) +ᵍ t ≤ᵍ nought) r.2 y))

-- the same of lists of canonical trees
first-no_number : (G : Tree) (Gs : Trees) → AreNoNumbers (more G Gs) → IsNumber G → ⊥
first-no_number G Gs h n = h.no_numbers G (inl refl) (n.0, n.1, canonical-number G (h.canonical G (inl refl)) n)

pub left-avoids : (Gs : Trees) (e : ℕ) (m : ℤ) → AreNoNumbers Gs → LeftWins (total Gs +ᵍ num e m) → (Hs : Trees) × LeftMoves Gs Hs × (node none none ≤ᵍ total Hs +ᵍ num e m)
left-avoids none e m h w = absurd h.some.1
left-avoids (more G Gs) e m h w = avoid_left G Gs (first-no_number G Gs h) e m w.0 w.1 w.2

pub right-avoids : (Gs : Trees) (e : ℕ) (m : ℤ) → AreNoNumbers Gs → RightWins (total Gs +ᵍ num e m) → (Hs : Trees) × RightMoves Gs Hs × (total Hs +ᵍ num e m ≤ᵍ node none none)
right-avoids none e m h w = absurd h.some.1
right-avoids (more G Gs) e m h w = avoid_right G Gs (first-no_number G Gs h) e m w.0 w.1 w.2
