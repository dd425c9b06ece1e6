-- How long games last. A canonical form lasts no longer than the game.
use Rattle.std.proofs.Common.{ℕ, zero, suc, ◌+◌, ◌*◌, ◌^◌, ◌-◌, ◌≤◌, ◌≡◌, arith, refl, inl, inr, sym, ap, ◌∙◌, subst, false, ℤ, pos, negsuc, ◌+ℤ◌, ◌*ℤ◌, unsigned_abs}
use Rattle.std.proofs.Math.Nat.{mul_assoc, mul-le-mul_right, pow-suc}
use Rattle.std.proofs.lemmas.Bool.{cases_Bool}
use Rattle.std.proofs.lemmas.Nat.{pow-add}
use Rattle.std.proofs.lemmas.Int.{ints, unsigned_abs-mul}
use Rattle.dyadic_num.specs.Units.{IsInBounds}
use Rattle.go_grid.specs.declared.grid.Colour.{Colour}
use Rattle.go_grid.specs.declared.grid.Colour.TheVariants as colour
use Rattle.short_games.specs.Tree.{Tree, Trees, node, none, more, left, right, neg, Has}
use Rattle.short_games.specs.Order.{◌≤ᵍ◌}
use Rattle.short_games.specs.Sum.{◌+ᵍ◌}
use Rattle.short_games.specs.Number.{count_tree, num, whole, half, is_even, IsNumberTree, number_tree}
use Rattle.short_games.specs.Parts.{IsFollower, IsOption}
use Rattle.short_games.specs.Parts.IsFollower.{itself, further}
use Rattle.short_games.specs.TextOrder.{IsCanonicalFor, IsCanonicalTree, TextBefore}
use Rattle.short_games.proofs.CanonicalLaws.{canonical-unique}
use Rattle.short_games.proofs.ExistenceLaws.{canon, canon_below}
use Rattle.short_games.proofs.FormLaws.{all-canonical, by_better}
use Rattle.short_games.proofs.NumberLaws.{half-even, half-odd, num-even, num-odd, whole-has_left, whole-has_right}
use Rattle.short_games.proofs.OrderLaws.{le-trans}
use Rattle.short_games.proofs.StopLaws.{num-scaled}
use Rattle.short_games.proofs.SumLaws.{InSum, left_of_sum, neg-left, neg-right, neg_each-has, right_of_sum}
use Rattle.short_games.proofs.SumLaws.InSum.{in_first, in_second}
use Rattle.short_games.proofs.TextOrderLaws.{text-order}
use Rattle.game_players.specs.Players.{gain}

-- no more than `n` moves, by either player in any order, can be made in the game
abbrev pub IsLow : ℕ → Tree → Type 0
IsLow zero G = (X : Tree) → IsOption G X → ⊥
IsLow (suc n) G = (X : Tree) → IsOption G X → IsLow n X

pub low_more : (n m : ℕ) (G : Tree) → n ≤ m → IsLow n G → IsLow m G
low_more zero zero G le low = low
low_more zero (suc m) G le low = λ X o. absurd (low X o)
low_more (suc n) zero G le low = absurd (omega (arith, le))
low_more (suc n) (suc m) G le low = λ X o. low_more n m X (omega (arith, le)) (low X o)

pub low_follower : (n : ℕ) (G X : Tree) → IsLow n G → IsFollower G X → IsLow n X
low_follower n _ _ low (itself G) = low
low_follower zero _ _ low (further G H X o f) = absurd (low H o)
low_follower (suc n) _ _ low (further G H X o f) = low_more n (suc n) X (omega arith) (low_follower n H X (low H o) f)

-- ---- canonical forms

record Canonicals (Gs : Trees) : Type 0 where
  trees : Trees
  to : (X : Tree) → Has Gs X → (Y : Tree) × Has trees Y × IsCanonicalFor X Y
  from : (Y : Tree) → Has trees Y → (X : Tree) × Has Gs X × IsCanonicalFor X Y

canonicals : (Gs : Trees) → Canonicals Gs
canonicals none = record { trees = none; to = λ X h. absurd h; from = λ Y h. absurd h }
canonicals (more G Gs) =
    let c = canon TextBefore text-order.total G in
    let is : IsCanonicalFor G c.tree = record { canonical = c.canonical; under = c.under; over = c.over } in
    let r = canonicals Gs in record {
      trees = more c.tree r.trees;
      to = λ X h. elim h [
        | inl e ↦ (c.tree, inl refl, subst (λ z. IsCanonicalFor z c.tree) (sym e) is)
        | inr x ↦ (let y = r.to X x in (y.0, inr y.1, y.2))
      ];
      from = λ Y h. elim h [
        | inl e ↦ (G, inl refl, subst (IsCanonicalFor G) (sym e) is)
        | inr y ↦ (let x = r.from Y y in (x.0, inr x.1, x.2))
      ];
    }

-- the tree of the options' canonical trees
pub record Lifted (G : Tree) : Type 0 where
  pub tree : Tree
  pub under : G ≤ᵍ tree
  pub over : tree ≤ᵍ G
  pub from : (Y : Tree) → IsOption tree Y → (X : Tree) × IsOption G X × IsCanonicalFor X Y

pub lifted : (G : Tree) → Lifted G
lifted (node ls rs) =
    let a = canonicals ls in
    let b = canonicals rs in record {
      tree = node a.trees b.trees;
      under = by_better (node ls rs) (node a.trees b.trees)
          (λ L l. (let y = a.to L l in (y.0, y.1, y.2.under))) (λ S s. (let x = b.from S s in (x.0, x.1, x.2.under)));
      over = by_better (node a.trees b.trees) (node ls rs)
          (λ L l. (let x = a.from L l in (x.0, x.1, x.2.over))) (λ S s. (let y = b.to S s in (y.0, y.1, y.2.over)));
      from = λ Y o. elim o [
        | inl l ↦ (let x = a.from Y l in (x.0, inl x.1, x.2))
        | inr r ↦ (let x = b.from Y r in (x.0, inr x.1, x.2))
      ];
    }

-- where the options are canonical, those of the canonical tree are followers of them
below : (G C : Tree) → ((X : Tree) → IsOption G X → IsCanonicalTree X) → IsCanonicalFor G C → (X : Tree) → IsOption C X
    → (L : Tree) × IsOption G L × IsFollower L X
below (node ls rs) C each is X h =
    let G = node ls rs in
    let r = canon_below TextBefore text-order.total ls rs (all-canonical TextBefore ls (λ Y y. each Y (inl y))) (all-canonical TextBefore rs (λ Y y. each Y (inr y))) in
    let t = r.canon in
    let same = canonical-unique TextBefore text-order.irreflexive text-order.transitive C t.tree is.canonical t.canonical
    (le-trans C G t.tree is.over t.under) (le-trans t.tree G C t.over is.under) in
    r.below X (subst (λ z. IsOption z X) same h)

-- each option of the canonical tree is a follower of the canonical tree of an option
pub from_option : (G C : Tree) → IsCanonicalFor G C → (X : Tree) → IsOption C X
    → (H : Tree) × ((L : Tree) × (IsOption G H × (IsCanonicalFor H L × IsFollower L X)))
from_option G C is X o =
    let l = lifted G in
    let w = below l.tree C (λ Y h. (l.from Y h).2.canonical)
    record { canonical = is.canonical; under = le-trans l.tree G C l.over is.under; over = le-trans C G l.tree is.over l.under } X o in
    let h = l.from w.0 w.1 in
    (h.0, (w.0, (h.1, (h.2, w.2))))

pub canonical_low : (n : ℕ) (G C : Tree) → IsLow n G → IsCanonicalFor G C → IsLow n C
canonical_low zero G C low is = λ X o. let w = from_option G C is X o in low w.0 w.1.1.0
canonical_low (suc n) G C low is = λ X o.
    let w = from_option G C is X o in
    low_follower n w.1.0 X (canonical_low n w.0 w.1.0 (low w.0 w.1.1.0) w.1.1.1.0) w.1.1.1.1

-- ---- sums and numbers

option_low : (n : ℕ) (G K : Tree) → IsLow n G → IsOption G K → (m : ℕ) × (suc m ≡ n) × IsLow m K
option_low zero G K low o = absurd (low K o)
option_low (suc n) G K low o = (n, refl, low K o)

none_at : (n m : ℕ) (G H : Tree) → n + m ≤ zero → IsLow n G → IsLow m H → (Gs Hs : Trees) → ((K : Tree) → Has Gs K → IsOption G K)
    → ((K : Tree) → Has Hs K → IsOption H K) → (X : Tree) → InSum G H Gs Hs X → ⊥
none_at n m G H le a b Gs Hs g h _ (in_first K x) = let o = option_low n G K a (g K x) in omega (arith, le, o.1)
none_at n m G H le a b Gs Hs g h _ (in_second K x) = let o = option_low m H K b (h K x) in omega (arith, le, o.1)

abbrev SumsAreLow : ℕ → Type 0
SumsAreLow k = (n m : ℕ) (G H : Tree) → n + m ≤ k → IsLow n G → IsLow m H → IsLow k (G +ᵍ H)

sum_at : (k : ℕ) → SumsAreLow k → (n m : ℕ) (G H : Tree) → n + m ≤ suc k → IsLow n G → IsLow m H → (Gs Hs : Trees)
    → ((K : Tree) → Has Gs K → IsOption G K) → ((K : Tree) → Has Hs K → IsOption H K) → (X : Tree) → InSum G H Gs Hs X → IsLow k X
sum_at k low n m G H le a b Gs Hs g h _ (in_first K x) =
    let o = option_low n G K a (g K x) in low o.0 m K H (omega (arith, le, o.1)) o.2 b
sum_at k low n m G H le a b Gs Hs g h _ (in_second K x) =
    let o = option_low m H K b (h K x) in low n o.0 G K (omega (arith, le, o.1)) a o.2

low_sum : (k : ℕ) → SumsAreLow k
low_sum zero n m G H le a b = λ X o. elim o [
  | inl l ↦ none_at n m G H le a b (left G) (left H) (λ K h. inl h) (λ K h. inl h) X (left_of_sum G H X l)
  | inr r ↦ none_at n m G H le a b (right G) (right H) (λ K h. inr h) (λ K h. inr h) X (right_of_sum G H X r)
]
low_sum (suc k) n m G H le a b = λ X o. elim o [
  | inl l ↦ sum_at k (low_sum k) n m G H le a b (left G) (left H) (λ K h. inl h) (λ K h. inl h) X (left_of_sum G H X l)
  | inr r ↦ sum_at k (low_sum k) n m G H le a b (right G) (right H) (λ K h. inr h) (λ K h. inr h) X (right_of_sum G H X r)
]

pub low_plus : (n m : ℕ) (G H : Tree) → IsLow n G → IsLow m H → IsLow (n + m) (G +ᵍ H)
low_plus n m G H a b = low_sum (n + m) n m G H (omega arith) a b

low_neg : (n : ℕ) (G : Tree) → IsLow n G → IsLow n (neg G)
low_neg n G low = go n G low
  where
    option : (G X : Tree) → IsOption (neg G) X → (K : Tree) × IsOption G K × (X ≡ neg K)
    option G X (inl l) = let r = neg_each-has (right G) X (rw (neg-left G) at l) in (r.0, inr r.1, r.2)
    option G X (inr l) = let r = neg_each-has (left G) X (rw (neg-right G) at l) in (r.0, inl r.1, r.2)

    go : (n : ℕ) (G : Tree) → IsLow n G → IsLow n (neg G)
    go zero G low = λ X o. let w = option G X o in low w.0 w.1
    go (suc n) G low = λ X o. let w = option G X o in subst (IsLow n) (sym w.2) (go n w.0 (low w.0 w.1))

low_count : (n : ℕ) → IsLow n (count_tree n)
unfolding count_tree
low_count zero = λ X o. elim o [ inl l ↦ l | inr r ↦ r ]
low_count (suc n) = λ X o. elim o [
  | inl l ↦ elim l [ inl e ↦ subst (IsLow n) (sym e) (low_count n) | inr none' ↦ absurd none' ]
  | inr r ↦ absurd r
]

-- so many stones last so many moves
pub low_gain : (c : Colour) (n : ℕ) → IsLow n (gain c n)
unfolding num whole
low_gain colour.Black n = low_count n
low_gain colour.White zero = low_count zero
low_gain colour.White (suc n) = low_neg (suc n) (count_tree (suc n)) (low_count (suc n))

low_whole : (h : ℕ) (m : ℤ) → IsLow h (whole m) → unsigned_abs m ≤ h
low_whole h (pos zero) low = omega arith
low_whole zero (pos (suc n)) low =
    let w = whole-has_left (pos (suc n)) (omega (arith, ints)) in absurd (low (whole w.0) (inl w.2))
low_whole (suc h) (pos (suc n)) low =
    let w = whole-has_left (pos (suc n)) (omega (arith, ints)) in
    let r = low_whole h w.0 (low (whole w.0) (inl w.2)) in omega (arith, ints, r, w.1)
low_whole zero (negsuc n) low =
    let w = whole-has_right (negsuc n) (omega (arith, ints)) in absurd (low (whole w.0) (inr w.2))
low_whole (suc h) (negsuc n) low =
    let w = whole-has_right (negsuc n) (omega (arith, ints)) in
    let r = low_whole h w.0 (low (whole w.0) (inr w.2)) in omega (arith, ints, r, w.1)

shared : (h a b : ℕ) → b ≡ a + a → h * b ≡ h * a + h * a
shared h a b e = ap (λ z. h * z) e ∙ grind arith

-- the options of a number that is no multiple of 2 ^ -e
odd_options : (h e : ℕ) (m : ℤ) → is_even m ≡ false → IsLow h (num (suc e) m)
    → (k : ℕ) × (suc k ≡ h) × IsLow k (num e (half m)) × IsLow k (num e (half m +ℤ pos 1))
odd_options zero e m odd low = absurd (low (num e (half m)) (subst (λ z. IsOption z (num e (half m))) (sym (num-odd e m odd)) (inl (inl refl))))
odd_options (suc k) e m odd low =
    let is = num-odd e m odd in (
      k,
      refl,
      low (num e (half m)) (subst (λ z. IsOption z (num e (half m))) (sym is) (inl (inl refl))),
      low (num e (half m +ℤ pos 1)) (subst (λ z. IsOption z (num e (half m +ℤ pos 1))) (sym is) (inr (inl refl))),
    )

num_size : (e h : ℕ) (m : ℤ) → IsLow h (num e m) → unsigned_abs m ≤ h * 2 ^ e
unfolding num
num_size zero h m low = let r = low_whole h m low in omega (arith, r)
num_size (suc e) h m low = elim (cases_Bool (is_even m)) [
  | inl even ↦
      let r = num_size e h (half m) (subst (IsLow h) (num-even e m even) low) in
      omega (arith, ints, r, half-even m even, shared h (2 ^ e) (2 ^ suc e) (omega (arith, pow-suc 2 e)))
  | inr odd ↦
      let o = odd_options h e m odd low in
      let a = num_size e h (half m) (low_more o.0 h _ (omega (arith, o.1)) o.2) in
      let b = num_size e h (half m +ℤ pos 1) (low_more o.0 h _ (omega (arith, o.1)) o.3) in
      omega (arith, ints, a, b, half-odd m odd, shared h (2 ^ e) (2 ^ suc e) (omega (arith, pow-suc 2 e)))
]

odd_high : (e h : ℕ) (m : ℤ) → is_even m ≡ false → IsLow h (num (suc e) m) → suc e ≤ h
odd_high zero h m odd low = let o = odd_options h zero m odd low in omega (arith, o.1)
odd_high (suc e) h m odd low =
    let o = odd_options h (suc e) m odd low in
    elim (cases_Bool (is_even (half m))) [
      | inr odd' ↦ (let r = odd_high e o.0 (half m) odd' o.2 in omega (arith, r, o.1))
      | inl even ↦ elim (cases_Bool (is_even (half m +ℤ pos 1))) [
        | inr odd' ↦ (let r = odd_high e o.0 (half m +ℤ pos 1) odd' o.3 in omega (arith, r, o.1))
        | inl even' ↦ absurd (omega (arith, ints, half-even (half m) even, half-even (half m +ℤ pos 1) even'))
      ]
    ]

-- a number that lasts few moves has few digits
record IsFraction (h : ℕ) (N : Tree) : Type 0 where
  exponent : ℕ
  numerator : ℤ
  same : N ≡ num exponent numerator
  low : exponent ≤ h
  small : unsigned_abs numerator ≤ h * 2 ^ exponent

fraction : (e h : ℕ) (m : ℤ) → IsLow h (num e m) → IsFraction h (num e m)
fraction zero h m low = record { exponent = zero; numerator = m; same = refl; low = omega arith; small = num_size zero h m low }
fraction (suc e) h m low = elim (cases_Bool (is_even m)) [
  | inl even ↦
      let is = num-even e m even in
      subst (IsFraction h) (sym is) (fraction e h (half m) (subst (IsLow h) is low))
  | inr odd ↦ record { exponent = suc e; numerator = m; same = refl; low = odd_high e h m odd low; small = num_size (suc e) h m low }
]

-- such a number is within the bounds
pub low_number : (N : Tree) → IsNumberTree N → IsLow 40 N → (u : ℤ) × IsInBounds u × (N ≡ number_tree u)
low_number N (e, m, is) low =
    let f = fraction e 40 m (subst (IsLow 40) is low) in
    let d = 60 - f.exponent in
    let sixty : d + f.exponent ≡ 60 = omega (arith, f.low) in
    let turned : f.exponent + d ≡ 60 = omega (arith, sixty) in
    let power : 2 ^ f.exponent * 2 ^ d ≡ 2 ^ 60 = sym (pow-add 2 f.exponent d) ∙ ap (λ z. 2 ^ z) turned in
    let size : unsigned_abs (f.numerator *ℤ pos (2 ^ d)) ≡ unsigned_abs f.numerator * 2 ^ d = unsigned_abs-mul f.numerator (pos (2 ^ d)) in
    let most : unsigned_abs f.numerator * 2 ^ d ≤ 40 * 2 ^ f.exponent * 2 ^ d = mul-le-mul_right (2 ^ d) f.small in
    let all : 40 * 2 ^ f.exponent * 2 ^ d ≡ 40 * 2 ^ 60 = mul_assoc 40 (2 ^ f.exponent) (2 ^ d) ∙ ap (λ z. 40 * z) power in (
      f.numerator *ℤ pos (2 ^ d),
      omega (arith, size, most, all),
      is ∙ f.same ∙ sym (num-scaled d f.exponent f.numerator) ∙ ap (λ z. num z (f.numerator *ℤ pos (2 ^ d))) sixty,
    )
