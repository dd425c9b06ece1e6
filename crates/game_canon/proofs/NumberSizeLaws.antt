-- How large the numbers of forms are.
use Rattle.std.proofs.Common.{ℕ, zero, suc, ◌+◌, ◌-◌, ◌*◌, ◌/◌, ◌^◌, ◌<◌, ◌≤◌, ◌≡◌, arith, refl, sym, ◌∙◌, inl, inr, ap, subst, ℤ, pos, negsuc, ◌+ℤ◌, ◌≤ℤ◌, ◌<ℤ◌}
use Rattle.std.specs.Prelude.{unsigned_abs, neg_ℤ}
use Rattle.std.proofs.lemmas.Int.{ints, by_lt_z}
use Rattle.std.proofs.lemmas.Nat.{pow-add, div-add-mod', mod_below}
use Rattle.dyadic_num.specs.Units.{IsSimplest, IsInside}
use Rattle.std.proofs.Math.Nat.{mul_assoc}
use Rattle.short_games.specs.Tree.{Tree, size}
use Rattle.short_games.specs.Number.{IsNumberTree, number_tree}
use Rattle.short_games.specs.Stops.{IsLeftStop, IsRightStop, IsHalf}
use Rattle.short_games.specs.Parts.{IsOption, IsFollower, IsNumberOf}
use Rattle.short_games.specs.Parts.IsFollower.{itself, further}
use Rattle.short_games.proofs.OrderLaws.{size-left, size-right}
use Rattle.short_games.proofs.WallNumberLaws.{num-one_to_one}
use Rattle.short_games.proofs.StopLaws.{left_stop-is, right_stop-is}
use Rattle.short_games.proofs.StopLaws.StopIs.{of_number, of_game}
use Rattle.game_canon.specs.inner.Sides.{Comes}
use Rattle.short_games.proofs.PartLaws.{follower-more, follower-trans, number-follower, option-numbers}

pub number-same : (x y : ℤ) → number_tree x ≡ number_tree y → x ≡ y
number-same = num-one_to_one 60

-- the one number of a number
pub own-number : (G : Tree) (x y : ℤ) → G ≡ number_tree x → IsNumberOf G y → y ≡ x
own-number G x y e (inl i) = number-same y x (sym i ∙ e)
own-number G x y e (inr p) = absurd (p.1.1 (number-follower G p.0 p.1.0 (60, x, e)))

-- stops are numbers of the game
mutual
  left-number : (n : ℕ) (G : Tree) (x : ℤ) → size G < n → IsLeftStop 60 G x → IsNumberOf G x
  left-number zero G x l s = absurd (omega (arith, l))
  left-number (suc n) G x l s = elim (left_stop-is 60 G x s) [
    | of_number i ↦ inl i
    | of_game f g ↦ (let r = g.reached in option-numbers G r.0 x f (inl r.1)
        (right-number n r.0 x (omega (arith, l, size-left G r.0 r.1)) r.2))
  ]

  right-number : (n : ℕ) (G : Tree) (x : ℤ) → size G < n → IsRightStop 60 G x → IsNumberOf G x
  right-number zero G x l s = absurd (omega (arith, l))
  right-number (suc n) G x l s = elim (right_stop-is 60 G x s) [
    | of_number i ↦ inl i
    | of_game f g ↦ (let r = g.reached in option-numbers G r.0 x f (inr r.1)
        (left-number n r.0 x (omega (arith, l, size-right G r.0 r.1)) r.2))
  ]

-- so floors and ceilings are within twice the size of the numbers
pub floor-within : (G : Tree) (b : ℕ) (k : ℤ) → ((x : ℤ) → IsNumberOf G x → unsigned_abs x ≤ b) → (x : ℤ) × IsRightStop 60 G x × IsHalf x (k +ℤ pos 1) → k <ℤ pos (b + b + 1)
floor-within G b k w s = let a = w s.0 (right-number (suc (size G)) G s.0 (omega arith) s.1) in omega (arith, ints, a, s.2.1, s.2.0)

pub ceiling-within : (G : Tree) (b : ℕ) (k : ℤ) → ((x : ℤ) → IsNumberOf G x → unsigned_abs x ≤ b) → (x : ℤ) × IsLeftStop 60 G x × IsHalf x k → negsuc (b + b) <ℤ k
ceiling-within G b k w s = let a = w s.0 (left-number (suc (size G)) G s.0 (omega arith) s.1) in omega (arith, ints, a, s.2.1, s.2.0)

-- a multiple of 2 ^ 61 that is a little above
next-multiple : (a : ℕ) → (n : ℕ) × (a < n) × (n ≤ a + 2 ^ 61) × ((k : ℕ) → k ≤ 61 → (c : ℕ) × (n ≡ c * 2 ^ k))
next-multiple a = (
  (a / 2 ^ 61 + 1) * 2 ^ 61,
  omega (arith, div-add-mod' a (2 ^ 61), mod_below a (2 ^ 61) (omega arith)),
  omega (arith, div-add-mod' a (2 ^ 61)),
  λ k l. ((a / 2 ^ 61 + 1) * 2 ^ (61 - k), ap (λ z. (a / 2 ^ 61 + 1) * z) (ap (λ z. 2 ^ z) (let e : 61 ≡ (61 - k) + k = omega (arith, l) in e) ∙ pow-add 2 (61 - k) k) ∙ sym (mul_assoc (a / 2 ^ 61 + 1) (2 ^ (61 - k)) (2 ^ k))),
)

-- the simplest number between bounds that are no further out is not much further out
pub simplest-within : (low high u : ℤ) (a : ℕ) → low <ℤ pos (a + 1) → negsuc a <ℤ high → IsSimplest 61 (IsInside low high) u → unsigned_abs u ≤ a + 2 ^ 61
simplest-within low high u a p q s = at u refl
  where
    m : (n : ℕ) × (a < n) × (n ≤ a + 2 ^ 61) × ((k : ℕ) → k ≤ 61 → (c : ℕ) × (n ≡ c * 2 ^ k))
    m = next-multiple a

    above : u ≤ℤ pos (a + 2 ^ 61)
    above = by_lt_z (pos (a + 2 ^ 61)) u
        (λ l. absurd (let t = s.least_size (pos m.0) (omega (arith, ints, p, m.1), omega (arith, ints, l, m.2, s.passes.1)) (λ k b _. m.3 k b) in omega (arith, ints, t, l, m.2, m.1)))
        (λ l. l)

    below : negsuc (a + 2 ^ 61) <ℤ u
    below = by_lt_z (negsuc (a + 2 ^ 61)) u (λ l. l)
        (λ l. absurd (let v : ℤ = neg_ℤ (pos m.0) in let e : unsigned_abs (neg_ℤ (pos m.0)) ≡ m.0 = omega (arith, ints) in
        let t = s.least_size (neg_ℤ (pos m.0)) (omega (arith, ints, l, m.2, m.1, s.passes.0), omega (arith, ints, q, m.1)) (λ k b _. (let c = m.3 k b in (c.0, e ∙ c.1))) in omega (arith, ints, t, l, m.2, m.1, e)))

    at : (v : ℤ) → v ≡ u → unsigned_abs u ≤ a + 2 ^ 61
    at v e = omega (arith, ints, above, below)

-- what is an option of a part of a listed game has its numbers from there
pub comes-number : (G X : Tree) (x : ℤ) → Comes G X → X ≡ number_tree x → (L : Tree) × IsOption G L × IsNumberOf L x
comes-number G X x c e = elim c.2 [
  | inl i ↦ (c.0, c.1, inl (sym i ∙ e))
  | inr q ↦ (c.0, c.1, inr (q.0, q.1, subst (IsOption q.0) e q.2))
]

comes-follower : (G X P : Tree) → Comes G X → IsFollower X P → (L : Tree) × IsOption G L × IsFollower L P
comes-follower G X P c f = elim c.2 [
  | inl i ↦ (c.0, c.1, subst (λ t. IsFollower t P) i f)
  | inr q ↦ (c.0, c.1, follower-trans c.0 X P (follower-more c.0 q.0 X q.1.0 q.2) f)
]

pub form-number : (G F : Tree) (x : ℤ) → (IsNumberTree F → ⊥) → ((X : Tree) → IsOption F X → Comes G X) → IsNumberOf F x → (L : Tree) × IsOption G L × IsNumberOf L x
form-number G F x n c (inl e) = absurd (n (60, x, e))
form-number G F x n c (inr p) = at F p.0 p.1.0 n c p.1.1 p.2
  where
    at : (F P : Tree) → IsFollower F P → (IsNumberTree F → ⊥) → ((X : Tree) → IsOption F X → Comes G X) → (IsNumberTree P → ⊥) → IsOption P (number_tree x) → (L : Tree) × IsOption G L × IsNumberOf L x
    at _ _ (itself F) n c m o = comes-number G (number_tree x) x (c (number_tree x) o) refl
    at _ _ (further F H P q f) n c m o = let r = comes-follower G H P (c H q) f in (r.0, r.1, inr (P, (r.2, m), o))

-- one more step away, through a part
pub come-further : (G Y A X : Tree) → Comes G Y → IsOption Y A → (IsNumberTree A → ⊥) → IsOption A X → Comes G X
come-further G Y A X c o n p = elim c.2 [
  | inl i ↦ (c.0, c.1, inr (A, (further c.0 A A (subst (λ t. IsOption t A) i o) (itself A), n), p))
  | inr q ↦ (c.0, c.1, inr (A, (follower-more c.0 Y A (follower-more c.0 q.0 Y q.1.0 q.2) o, n), p))
]
