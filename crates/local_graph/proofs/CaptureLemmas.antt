-- What a move does to the numbers of stones.
use Rattle.std.proofs.Common.{◌≡◌, ℕ, ◌+◌, ◌-◌, ◌*◌, ◌≤◌, ◌<◌, ◌⊎◌, List, [], ◌∷◌, suc, inl, inr, Bool, true, false, length, get_or, refl, sym, ap, ◌∙◌, arith, cond, subst}
use Rattle.std.specs.List.{count_by}
use Rattle.std.proofs.Math.Nat.{add-mul, one-mul, mul-le-mul_right}
use Rattle.std.proofs.lemmas.Bool.{cases_Bool, cases_lt}
use Rattle.std.proofs.lemmas.List.Sums.{count_by-le-length, sum_by-set, sum_by-cons}
use Rattle.go_grid.specs.declared.grid.Cell.{Cell}
use Rattle.go_grid.specs.declared.grid.Cell.TheVariants as cell
use Rattle.go_grid.specs.declared.grid.Colour.{Colour}
use Rattle.go_grid.specs.declared.grid.Colour.TheVariants as colour
use Rattle.go_grid.specs.declared.region.Touch.{Touch}
use Rattle.go_grid.specs.Board.{stone, other}
use Rattle.go_grid.specs.Stones.{is_of}
use Rattle.go_grid.proofs.BoardLemmas.{not_other, empty_not_stone}
use Rattle.go_grid.proofs.PathLemmas.{leads_end}
use Rattle.local_play.specs.LocalPlay.{held_at, Holds, IsLinked, IsBeside, IsLocalMove, with_stone, is_stone}
use Rattle.go_grid.specs.Play.{IsTaken}
use Rattle.local_graph.specs.Returns.{IsCapture}
use Rattle.local_graph.specs.inner.Ranks.{stones_of}

-- lists that hold the same at each place, and past the end nothing that counts
pub same_count : (f : Cell → Bool) → f cell.Empty ≡ false → (xs ys : List Cell)
    → ((q : ℕ) → f (get_or xs q cell.Empty) ≡ f (get_or ys q cell.Empty)) → count_by f xs ≡ count_by f ys
same_count f none [] [] same = refl
same_count f none [] (y ∷ ys) same =
    let rest = same_count f none [] ys (λ q. same (suc q)) in
    let first : cond {A = ℕ} (f y) 1 0 ≡ 0 = ap (λ b. cond {A = ℕ} b 1 0) (sym (same 0) ∙ none) in
    omega (arith, rest, first, sum_by-cons (λ z. cond (f z) 1 0) y ys)
same_count f none (x ∷ xs) [] same =
    let rest = same_count f none xs [] (λ q. same (suc q)) in
    let first : cond {A = ℕ} (f x) 1 0 ≡ 0 = ap (λ b. cond {A = ℕ} b 1 0) (same 0 ∙ none) in
    omega (arith, rest, first, sum_by-cons (λ z. cond (f z) 1 0) x xs)
same_count f none (x ∷ xs) (y ∷ ys) same =
    let rest = same_count f none xs ys (λ q. same (suc q)) in
    let first : cond {A = ℕ} (f x) 1 0 ≡ cond {A = ℕ} (f y) 1 0 = ap (λ b. cond {A = ℕ} b 1 0) (same 0) in
    omega (arith, rest, first, sum_by-cons (λ z. cond (f z) 1 0) x xs, sum_by-cons (λ z. cond (f z) 1 0) y ys)

is_own : (d : Colour) → is_of d (stone d) ≡ true
is_own colour.Black = refl
is_own colour.White = refl

own_is : (d : Colour) (x : Cell) → is_of d x ≡ true → x ≡ stone d
own_is colour.Black cell.Black e = refl
own_is colour.Black cell.White e = cc
own_is colour.Black cell.Empty e = cc
own_is colour.White cell.White e = refl
own_is colour.White cell.Black e = cc
own_is colour.White cell.Empty e = cc

pub empty_isn't : (d : Colour) → is_of d cell.Empty ≡ false
empty_isn't colour.Black = refl
empty_isn't colour.White = refl

-- each stone is of one of two colours
one_or_other : (c : Colour) (x : Cell)
    → cond {A = ℕ} (is_stone x) 1 0 ≡ cond {A = ℕ} (is_of c x) 1 0 + cond {A = ℕ} (is_of (other c) x) 1 0
one_or_other colour.Black cell.Empty = refl
one_or_other colour.Black cell.Black = refl
one_or_other colour.Black cell.White = refl
one_or_other colour.White cell.Empty = refl
one_or_other colour.White cell.Black = refl
one_or_other colour.White cell.White = refl

pub both_colours : (c : Colour) (cells : List Cell) → count_by is_stone cells ≡ stones_of c cells + stones_of (other c) cells
both_colours c [] = refl
both_colours c (x ∷ xs) = omega (
  arith,
  both_colours c xs,
  one_or_other c x,
  sum_by-cons (λ z. cond (is_stone z) 1 0) x xs,
  sum_by-cons (λ z. cond (is_of c z) 1 0) x xs,
  sum_by-cons (λ z. cond (is_of (other c) z) 1 0) x xs,
)

-- a move adds one stone of its colour
pub one_more : (touch : List Touch) (cells after : List Cell) (c : Colour) (p : ℕ) → IsLocalMove touch cells c p after
    → stones_of c after ≡ stones_of c cells + 1
one_more touch cells after c p m =
    let placed = with_stone cells p c in
    let gone = IsTaken (IsLinked touch) (IsBeside touch) placed p (other c) in
    let once = sum_by-set (λ y. cond (is_of c y) 1 0) cells p (stone c) cell.Empty m.place in
    let was : is_of c (held_at cells p) ≡ false = ap (is_of c) m.free ∙ empty_isn't c in
    let more : stones_of c (with_stone cells p c) ≡ stones_of c cells + 1 = omega (arith, rw (was, is_own c) at once) in
    let not_gone = λ (q : ℕ) (on : held_at placed q ≡ stone c) (t : gone q).
    not_other c (sym on ∙ leads_end (IsLinked touch) (Holds placed (other c)) t.0 q t.2) in
    let same = λ (q : ℕ). elim (cases_Bool (is_of c (held_at placed q))) as (λ _. is_of c (held_at after q) ≡ is_of c (held_at placed q)) [
      | inl on ↦ ap (is_of c) (m.without.kept q (not_gone q (own_is c (held_at placed q) on)))
      | inr off ↦ elim (cases_Bool (is_of c (held_at after q))) as (λ _. is_of c (held_at after q) ≡ is_of c (held_at placed q)) [
        | inl on ↦
            let stays = m.without.kept q (λ t. empty_not_stone c (sym (m.without.gone q t) ∙ own_is c (held_at after q) on)) in
            ap (is_of c) stays
        | inr off' ↦ off' ∙ sym off
      ]
    ] in
    same_count (is_of c) (empty_isn't c) after placed same ∙ more

-- a number that rises with each move but the captures of a colour
abbrev pub weight_in : ℕ → Colour → List Cell → ℕ
weight_in room c cells = stones_of (other c) cells * (room + 1) + stones_of c cells

is_foe : (c d : Colour) → (d ≡ c) ⊎ (d ≡ other c)
is_foe colour.Black colour.Black = inl refl
is_foe colour.Black colour.White = inr refl
is_foe colour.White colour.Black = inr refl
is_foe colour.White colour.White = inl refl

pub more_or_capture : (touch : List Touch) (cells after : List Cell) (c d : Colour) (p room : ℕ) → length cells ≤ room
    → IsLocalMove touch cells d p after
    → ((d ≡ c) × IsCapture cells after) ⊎ (weight_in room c cells < weight_in room c after)
more_or_capture touch cells after c d p room fits m = elim (is_foe c d) [
  | inr foe ↦
      let up = subst (λ x. stones_of x after ≡ stones_of x cells + 1) foe (one_more touch cells after d p m) in
      let few = count_by-le-length (is_of c) cells in
      inr (further (stones_of (other c) cells) (stones_of (other c) after) (stones_of c cells) (stones_of c after) room up (omega (arith, few, fits)))
  | inl own ↦
      let up = subst (λ x. stones_of x after ≡ stones_of x cells + 1) own (one_more touch cells after d p m) in
      elim (cases_lt (count_by is_stone after) (count_by is_stone cells + 1)) [
        | inl lt ↦
            let n : (k : ℕ) × (0 < k) × (count_by is_stone after + k ≡ count_by is_stone cells + 1) =
            less_by (count_by is_stone after) (count_by is_stone cells + 1) lt in
            inl (own, n)
        | inr le ↦
            let foes : stones_of (other c) cells ≤ stones_of (other c) after = omega (arith, le, up, both_colours c cells, both_colours c after) in
            inr (nearer (stones_of (other c) cells) (stones_of (other c) after) (stones_of c cells) (stones_of c after) room up foes)
      ]
]
  where
    further : (w w' b b' n : ℕ) → w' ≡ w + 1 → b ≤ n → w * (n + 1) + b < w' * (n + 1) + b'
    further w w' b b' n e le =
        let next : w' * (n + 1) ≡ (w + 1) * (n + 1) = ap (λ x. x * (n + 1)) e in
        omega (arith, next, add-mul w 1 (n + 1), one-mul (n + 1), le)

    nearer : (w w' b b' n : ℕ) → b' ≡ b + 1 → w ≤ w' → w * (n + 1) + b < w' * (n + 1) + b'
    nearer w w' b b' n e le = omega (arith, e, mul-le-mul_right {m = w} {n = w'} (n + 1) le)

    less_by : (a b : ℕ) → a < b → (k : ℕ) × (0 < k) × (a + k ≡ b)
    less_by a b lt = (b - a, omega arith, omega arith)
