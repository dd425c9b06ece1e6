-- How the order of two ids follows from floors and ceilings, and from the comparisons on which it rests.
use Rattle.std.proofs.Common.{ℕ, ◌+◌, ◌-◌, ◌<◌, ◌≡◌, ◌↔◌, List, length, get_or, arith, sym, ◌∙◌, inl, inr, ap, subst, ℤ, ◌≤ℤ◌, ◌<ℤ◌, cond}
use Rattle.std.proofs.lemmas.Int.{ints, by_lt_z}
use Rattle.std.proofs.lemmas.Bool.{cases_lt, lt-ltb, le-ltb}
use Rattle.short_games.specs.Tree.{Tree, left, right, Has, tree_at, AreDistinct}
use Rattle.short_games.specs.Number.{num, IsNumberTree}
use Rattle.short_games.specs.Order.{◌≤ᵍ◌}
use Rattle.short_games.specs.Threshold.{IsFloor, IsCeiling}
use Rattle.short_games.proofs.OrderLaws.{le-out, le-in, le-trans, le-refl}
use Rattle.short_games.proofs.TextOrderLaws.{sorted-has, has-sorted}
use Rattle.short_games.proofs.ThresholdLaws.{cell, half-cell}
use Rattle.game_store.specs.Meaning.{pick}
use Rattle.game_store.specs.Forms.{IsOptions}
use Rattle.game_store.proofs.EntryLaws.{has-pick, pick-has}
use Rattle.std.specs.Prelude.{Option}
use Rattle.game_canon.specs.declared.games.Unstored.{Unstored}
use Rattle.game_canon.specs.inner.Games.{with_unstored}
use Rattle.game_canon.proofs.GameLaws.{lefts-same, rights-same}
use Rattle.game_canon.specs.inner.Comparisons.{counter, IsCountered, NoneCounters}

-- a number between the two, and a number at most the first alone, or at least the second alone
pub number_between : (A B : Tree) (f g : ℤ) → IsCeiling 60 A f → IsFloor 60 B g → f ≤ℤ g → A ≤ᵍ B
number_between A B f g p q l = le-trans A (num 61 f) B ((p 61 f f (half-cell 60 f)).1 (omega (arith, ints))) ((q 61 f f (half-cell 60 f)).1 l)

pub number_under : (A B : Tree) (f g : ℤ) → IsFloor 60 A f → IsFloor 60 B g → g <ℤ f → A ≤ᵍ B → ⊥
number_under A B f g p q n y = (let l : f ≤ℤ g = (q 61 f f (half-cell 60 f)).0 (le-trans (num 61 f) A B ((p 61 f f (half-cell 60 f)).1 (omega (arith, ints))) y) in omega (arith, ints, n, l))

pub number_over : (A B : Tree) (f g : ℤ) → IsCeiling 60 A f → IsCeiling 60 B g → g <ℤ f → A ≤ᵍ B → ⊥
number_over A B f g p q n y = (let l : f ≤ℤ g = (p 61 g g (half-cell 60 g)).0 (le-trans A B (num 61 g) y ((q 61 g g (half-cell 60 g)).1 (omega (arith, ints)))) in omega (arith, ints, n, l))

-- a number's ceiling is no greater than its floor
pub level : (G : Tree) (f c : ℤ) → IsNumberTree G → IsFloor 60 G f → IsCeiling 60 G c → c ≤ℤ f
level G f c n p q =
    let h = cell 60 n.0 n.1 in
    let under = (p n.0 n.1 h.0 h.1).0 (subst (λ t. num n.0 n.1 ≤ᵍ t) (sym n.2) (le-refl (num n.0 n.1))) in
    let over = (q n.0 n.1 h.0 h.1).0 (subst (λ t. t ≤ᵍ num n.0 n.1) (sym n.2) (le-refl (num n.0 n.1))) in
    omega (arith, ints, under, over)

-- where the first of two is a number, its ceiling is at most the other's floor, unless its floor is above that
pub first_level : (A : Tree) (low high other_low : ℤ) → IsNumberTree A → IsFloor 60 A low → IsCeiling 60 A high → (other_low <ℤ low → ⊥) → high ≤ℤ other_low
first_level A low high other_low n p q above = let l = level A low high n p q in by_lt_z other_low high (λ o. absurd (above (omega (arith, ints, l, o)))) (λ o. o)

-- where the second is, the first's ceiling is at most its floor, unless that ceiling is above its own
pub second_level : (B : Tree) (high other_low other_high : ℤ) → IsNumberTree B → IsFloor 60 B other_low → IsCeiling 60 B other_high → (other_high <ℤ high → ⊥) → high ≤ℤ other_low
second_level B high other_low other_high n p q above = let l = level B other_low other_high n p q in by_lt_z other_low high (λ o. absurd (above (omega (arith, ints, l, o)))) (λ o. o)

pub through : {A B C : Type 0} → A ↔ B → B ↔ C → A ↔ C
through f g = (λ a. g.0 (f.0 a), λ c. f.1 (g.1 c))

module _ (Ts : List Tree) (a b : ℕ) (ls rs ms ns : List ℕ) (p : IsOptions Ts a ls ms) (q : IsOptions Ts b ns rs) where
  at-left : (j : ℕ) → j < length ls → counter a b ls rs j ≡ (b, get_or ls j 0)
  at-left j l = ap (λ t. cond t (b, get_or ls j 0) (get_or rs (j - length ls) 0, a)) (lt-ltb j (length ls) l)

  at-right : (j : ℕ) → counter a b ls rs (length ls + j) ≡ (get_or rs j 0, a)
  at-right j = ap (λ t. cond t (b, get_or ls (length ls + j) 0) (get_or rs (length ls + j - length ls) 0, a)) (le-ltb (length ls + j) (length ls) (omega arith)) ∙ ap (λ i. (get_or rs i 0, a)) (omega arith)

  -- smaller ids
  pub counter-below : a < length Ts → b < length Ts → (j : ℕ) → j < length ls + length rs
      → ((counter a b ls rs j).0 < length Ts) × ((counter a b ls rs j).1 < length Ts) × ((counter a b ls rs j).0 + (counter a b ls rs j).1 < a + b)
  counter-below x y j l = elim (cases_lt j (length ls)) [
    | inl d ↦ (let i = p.left_below j d in subst (λ c. (c.0 < length Ts) × (c.1 < length Ts) × (c.0 + c.1 < a + b)) (sym (at-left j d)) (y, omega (arith, i, x), omega (arith, i)))
    | inr d ↦ (
        let i = q.right_below (j - length ls) (omega (arith, l, d)) in
        subst (λ k. ((counter a b ls rs k).0 < length Ts) × ((counter a b ls rs k).1 < length Ts) × ((counter a b ls rs k).0 + (counter a b ls rs k).1 < a + b)) (omega (arith, d))
        (subst (λ c. (c.0 < length Ts) × (c.1 < length Ts) × (c.0 + c.1 < a + b)) (sym (at-right (j - length ls))) (omega (arith, i, y), x, omega (arith, i)))
        )
  ]

  left-is : (L : Tree) → Has (left (tree_at Ts a)) L → (j : ℕ) × (j < length ls) × (L ≡ tree_at Ts (get_or ls j 0))
  left-is L h = has-pick Ts ls L (sorted-has (pick Ts ls) L (subst (λ t. Has (left t) L) p.tree h))

  right-is : (R : Tree) → Has (right (tree_at Ts b)) R → (j : ℕ) × (j < length rs) × (R ≡ tree_at Ts (get_or rs j 0))
  right-is R h = has-pick Ts rs R (sorted-has (pick Ts rs) R (subst (λ t. Has (right t) R) q.tree h))

  -- a is at most b where nothing counters it
  pub none-counters : ((j : ℕ) → j < length ls + length rs → IsCountered Ts (counter a b ls rs j) → ⊥) → tree_at Ts a ≤ᵍ tree_at Ts b
  none-counters f = le-in (tree_at Ts a) (tree_at Ts b) record {
    from_left = λ L h y. (let r = left-is L h in f r.0 (omega (arith, r.1)) (subst (IsCountered Ts) (sym (at-left r.0 r.1)) (subst (λ t. tree_at Ts b ≤ᵍ t) r.2 y)));
    from_right = λ R h y. (let r = right-is R h in f (length ls + r.0) (omega (arith, r.1)) (subst (IsCountered Ts) (sym (at-right r.0)) (subst (λ t. t ≤ᵍ tree_at Ts a) r.2 y)));
  }

  pub one-counters : (j : ℕ) → j < length ls + length rs → IsCountered Ts (counter a b ls rs j) → tree_at Ts a ≤ᵍ tree_at Ts b → ⊥
  one-counters j l c y = elim (cases_lt j (length ls)) [
    | inl d ↦ (le-out (tree_at Ts a) (tree_at Ts b) y).from_left (tree_at Ts (get_or ls j 0)) (subst (λ t. Has (left t) (tree_at Ts (get_or ls j 0))) (sym p.tree) (has-sorted (pick Ts ls) _ (pick-has Ts ls j d))) (subst (IsCountered Ts) (at-left j d) c)
    | inr d ↦ (
        let k = j - length ls in
        (le-out (tree_at Ts a) (tree_at Ts b) y).from_right (tree_at Ts (get_or rs k 0)) (subst (λ t. Has (right t) (tree_at Ts (get_or rs k 0))) (sym q.tree) (has-sorted (pick Ts rs) _ (pick-has Ts rs k (omega (arith, l, d)))))
        (subst (IsCountered Ts) (at-right k) (subst (λ i. IsCountered Ts (counter a b ls rs i)) (omega (arith, d)) c))
        )
  ]

-- what holds of the lists at hand holds of all
pub for-all-lists : (Ts : List Tree) (o : Option Unstored) (a b : ℕ) (ls rs ms ns : List ℕ) (n : ℕ) → AreDistinct Ts → a < length (with_unstored Ts o) → b < length (with_unstored Ts o) → IsOptions (with_unstored Ts o) a ls ms → IsOptions (with_unstored Ts o) b ns rs
    → ((j : ℕ) → j < n → j < length ls + length rs → IsCountered (with_unstored Ts o) (counter a b ls rs j) → ⊥) → NoneCounters (with_unstored Ts o) a b n
for-all-lists Ts o a b ls rs ms ns n d x y p q f ls' rs' ms' ns' p' q' = subst (λ ks. (j : ℕ) → j < n → j < length ks + length rs' → IsCountered (with_unstored Ts o) (counter a b ks rs' j) → ⊥) (lefts-same Ts o a ls ms ls' ms' d x p p')
    (subst (λ ks. (j : ℕ) → j < n → j < length ls + length ks → IsCountered (with_unstored Ts o) (counter a b ls ks j) → ⊥) (rights-same Ts o b ns rs ns' rs' d y q q') f)
