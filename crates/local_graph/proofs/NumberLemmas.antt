-- The number in base 3 of the position after a move that takes nothing.
use Rattle.std.proofs.Common.{◌≡◌, ℕ, ◌+◌, ◌*◌, ◌^◌, ◌<◌, ◌≤◌, ◌⊎◌, inl, inr, suc, zero, arith, refl, sym, ap, ◌∙◌, List, [], ◌∷◌, length, set, cond}
use Rattle.std.specs.List.{count_by}
use Rattle.std.proofs.Math.Nat.{pow-succ', pow-le-pow_right}
use Rattle.std.proofs.lemmas.List.Sums.{sum_by-set, sum_by-cons}
use Rattle.go_grid.specs.declared.grid.Cell.{Cell}
use Rattle.go_grid.specs.declared.grid.Cell.TheVariants as cell
use Rattle.go_grid.specs.declared.grid.Colour.{Colour}
use Rattle.go_grid.specs.declared.grid.Colour.TheVariants as colour
use Rattle.go_grid.specs.declared.region.Touch.{Touch}
use Rattle.go_grid.specs.Board.{stone}
use Rattle.go_grid.specs.Play.{held_at, with_stone, is_stone, IsWithout}
use Rattle.go_grid.proofs.BoardLemmas.{empty_not_stone}
use Rattle.go_grid.proofs.PlayLemmas.{long_after}
use Rattle.local_play.specs.declared.local_move.LocalMove.{LocalMove}
use Rattle.local_play.specs.Packed.{code, pack}
use Rattle.local_play.specs.Moves.{IsMoveFrom}
use Rattle.local_graph.specs.inner.PlaceTable.{threes, AddsDigit}
use Rattle.local_graph.proofs.FiniteLemmas.{ternary, ternary_small}
use Rattle.local_graph.proofs.ThreesLemmas.{threes_is}

-- 1 for a stone
abbrev weight : Cell → ℕ
weight x = cond (is_stone x) 1 0

one_cell : (x y : Cell) → (x ≡ cell.Empty) ⊎ (x ≡ y) → (weight x ≤ weight y) × (weight y ≤ weight x → x ≡ y)
one_cell x y (inr same) = (let w = ap weight same in omega (arith, w), λ le. same)
one_cell cell.Empty cell.Empty (inl none) = (omega arith, λ le. refl)
one_cell cell.Empty cell.Black (inl none) = (omega arith, λ le. absurd (omega (arith, le)))
one_cell cell.Empty cell.White (inl none) = (omega arith, λ le. absurd (omega (arith, le)))
one_cell cell.Black y (inl none) = absurd (empty_not_stone colour.Black (sym none))
one_cell cell.White y (inl none) = absurd (empty_not_stone colour.White (sym none))

-- cells without stones of others are the same where they have as many
same_stones : (a b : List Cell) → length a ≡ length b → ((i : ℕ) → (held_at a i ≡ cell.Empty) ⊎ (held_at a i ≡ held_at b i))
    → (count_by is_stone a ≤ count_by is_stone b) × (count_by is_stone b ≤ count_by is_stone a → a ≡ b)
same_stones [] [] long h = (omega arith, λ le. refl)
same_stones [] (y ∷ b) long h = absurd (omega (arith, long))
same_stones (x ∷ a) [] long h = absurd (omega (arith, long))
same_stones (x ∷ a) (y ∷ b) long h =
    let rest = same_stones a b (omega (arith, long)) (λ i. h (suc i)) in
    let first = one_cell x y (h 0) in
    let counts = sum_by-cons weight x a in
    let counts' = sum_by-cons weight y b in (
      omega (arith, rest.0, first.0, counts, counts'),
      λ le.
          let same : x ≡ y = first.1 (omega (arith, le, rest.0, counts, counts')) in
          let others : a ≡ b = rest.1 (omega (arith, le, first.0, counts, counts')) in
          cc,
    )

-- a stone at an empty place adds its digit
ternary_set : (cells : List Cell) (p : ℕ) (x : Cell) → p < length cells → held_at cells p ≡ cell.Empty
    → ternary (set cells p x) ≡ ternary cells + code x * 3 ^ p
unfolding ternary
ternary_set [] p x lt free = absurd (omega (arith, lt))
ternary_set (c ∷ cs) zero x lt free = let none = ap code free in omega (arith, none)
ternary_set (c ∷ cs) (suc p) x lt free =
    let again = ternary_set cs p x (omega (arith, lt)) free in
    let digit : code x * 3 ^ suc p ≡ 3 * (code x * 3 ^ p) = ap (λ n. code x * n) (pow-succ' 3 p) ∙ thrice (code x) (3 ^ p) in
    omega (arith, again, digit)
  where
    thrice : (a b : ℕ) → a * (3 * b) ≡ 3 * (a * b)
    thrice a b = grind arith

-- what takes nothing leaves all stones
without_none : (cells after : List Cell) (Gone : ℕ → Type 0) → IsWithout cells Gone after → (i : ℕ)
    → (held_at after i ≡ cell.Empty) ⊎ (held_at after i ≡ held_at cells i)
without_none cells after Gone w i = go (held_at after i) refl
  where
    go : (x : Cell) → held_at after i ≡ x → (held_at after i ≡ cell.Empty) ⊎ (held_at after i ≡ held_at cells i)
    go cell.Empty e = inl e
    go cell.Black e = inr (w.kept i (λ gone. empty_not_stone colour.Black (sym (w.gone i gone) ∙ e)))
    go cell.White e = inr (w.kept i (λ gone. empty_not_stone colour.White (sym (w.gone i gone) ∙ e)))

one_more : (cells : List Cell) (p : ℕ) (c : Colour) → p < length cells → held_at cells p ≡ cell.Empty
    → count_by is_stone (with_stone cells p c) ≡ count_by is_stone cells + 1
one_more cells p c lt free =
    let one = sum_by-set weight cells p (stone c) cell.Empty lt in
    let none = ap weight free in
    let stone_is = stone_counts c in
    omega (arith, one, none, stone_is)
  where
    stone_counts : (c : Colour) → weight (stone c) ≡ 1
    stone_counts colour.Black = refl
    stone_counts colour.White = refl

pub move_follows : (touch : List Touch) (cells : List Cell) (from : ℕ) (m : LocalMove) → length cells ≤ 32 → from ≡ pack cells
    → IsMoveFrom touch cells m → AddsDigit (threes from) m
move_follows touch cells from m few is f = record {
  inside = omega (arith, f.move.place, few);
  plain = λ none.
      let placed = f.move in
      let whole = with_stone cells m.place m.colour in
      let more = one_more cells m.place m.colour placed.place placed.free in
      let same : f.after ≡ whole = (same_stones f.after whole placed.without.long (without_none whole f.after _ placed.without)).1 (omega (arith, f.taken, none, more)) in
      let few' : length f.after ≤ 32 = omega (arith, long_after placed, few) in
      ap threes f.next ∙ threes_is f.after few' ∙ ap ternary same ∙ ternary_set cells m.place (stone m.colour) placed.place placed.free
      ∙ ap (λ n. n + code (stone m.colour) * 3 ^ m.place) (sym (ap threes is ∙ threes_is cells few));
}

-- the same in the words of the code
pub small_number : (cells : List Cell) (from places : ℕ) → length cells ≡ places → places ≤ 32 → from ≡ pack cells → threes from < 3 ^ 32
small_number cells from places long few is =
    let few' : length cells ≤ 32 = omega (arith, long, few) in
    omega (arith, ap threes is, threes_is cells few', ternary_small cells, pow-le-pow_right {n = 3} (omega arith) few')

-- a power of 3 is small
pub small_power : (p : ℕ) → p < 32 → 3 ^ p ≤ 3 ^ 31
small_power p lt = let le : p ≤ 31 = omega (arith, lt) in pow-le-pow_right {n = 3} (omega arith) le
