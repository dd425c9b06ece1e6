-- Each placing leaves more stones of its colour on the board.
use Rattle.std.proofs.Common.{◌≡◌, ℕ, ◌+◌, ◌-◌, ◌≤◌, ◌<◌, List, [], ◌∷◌, suc, inl, inr, Bool, true, false, length, get_or, set, refl, sym, ap, ◌∙◌, arith, cond}
use Rattle.std.specs.List.{count_by}
use Rattle.std.proofs.lemmas.Bool.{cases_Bool}
use Rattle.std.proofs.lemmas.List.Sums.{count_by-le-length, sum_by-set, sum_by-cons}
use Rattle.go_grid.specs.declared.grid.Cell.{Cell}
use Rattle.go_grid.specs.declared.grid.Cell.TheVariants as cell
use Rattle.go_grid.specs.declared.grid.Colour.{Colour}
use Rattle.go_grid.specs.declared.grid.Colour.TheVariants as colour
use Rattle.go_grid.specs.Board.{Board, stone, cell_at}
use Rattle.go_play.specs.Place.{IsPlaced}
use Rattle.go_play.specs.inner.Place.{with_stone}
use Rattle.benson_attack.specs.Reached.{number_of_stones}
use Rattle.go_grid.specs.Stones.{is_of}
use Rattle.go_grid.proofs.BoardLemmas.{not_other}
use Rattle.go_play.proofs.BoardPlayLemmas.{taken_stone}

counted : (f : Cell → Bool) (x : Cell) (xs : List Cell) (b : Bool) → f x ≡ b → count_by f (x ∷ xs) ≡ cond b 1 0 + count_by f xs
counted f x xs b e = sum_by-cons (λ z. cond (f z) 1 0) x xs ∙ ap (λ b. cond b 1 0 + count_by f xs) e

-- a list that has what the other has, and as many items, has as many
more_there : (f : Cell → Bool) (xs ys : List Cell) → length xs ≡ length ys
    → ((q : ℕ) → f (get_or xs q cell.Empty) ≡ true → f (get_or ys q cell.Empty) ≡ true) → count_by f xs ≤ count_by f ys
more_there f [] ys e keeps = omega arith
more_there f (x ∷ xs) [] e keeps = omega (arith, e)
more_there f (x ∷ xs) (y ∷ ys) e keeps =
    let rest = more_there f xs ys (omega (arith, e)) (λ q. keeps (suc q)) in
    elim (cases_Bool (f x)) as (λ _. count_by f (x ∷ xs) ≤ count_by f (y ∷ ys)) [
      | inl on ↦ omega (arith, rest, counted f x xs true on, counted f y ys true (keeps 0 on))
      | inr off ↦ elim (cases_Bool (f y)) as (λ _. count_by f (x ∷ xs) ≤ count_by f (y ∷ ys)) [
        | inl on ↦ omega (arith, rest, counted f x xs false off, counted f y ys true on)
        | inr off' ↦ omega (arith, rest, counted f x xs false off, counted f y ys false off')
      ]
    ]

is_own : (d : Colour) → is_of d (stone d) ≡ true
is_own colour.Black = refl
is_own colour.White = refl

own_is : (d : Colour) (x : Cell) → is_of d x ≡ true → x ≡ stone d
own_is colour.Black cell.Black e = refl
own_is colour.Black cell.White e = cc
own_is colour.Black cell.Empty e = cc
own_is colour.White cell.White e = refl
own_is colour.White cell.Black e = cc
own_is colour.White cell.Empty e = cc

empty_isn't : (d : Colour) → is_of d cell.Empty ≡ false
empty_isn't colour.Black = refl
empty_isn't colour.White = refl

pub rises : (h : Board) (d : Colour) (p : ℕ) (m : Board) → IsPlaced h p d m → number_of_stones d h < number_of_stones d m
rises h d p m placed =
    let once = sum_by-set (λ y. cond (is_of d y) 1 0) h.cells p (stone d) cell.Empty placed.1.place in
    let was : is_of d (cell_at h p) ≡ false = ap (is_of d) placed.1.free ∙ empty_isn't d in
    let more : count_by (is_of d) (set h.cells p (stone d)) ≡ count_by (is_of d) h.cells + 1 =
    omega (arith, rw (was, is_own d) at once) in
    let stays = more_there (is_of d) (set h.cells p (stone d)) m.cells (sym placed.1.without.long) (λ q on.
    ap (is_of d) (placed.1.without.kept q (λ t. not_other d (sym (own_is d (cell_at (with_stone h p d) q) on) ∙ (taken_stone h p d q t).1))) ∙ on) in
    omega (arith, more, stays)

-- so fewer points are without one
pub falls : (d : Colour) (g h : Board) → length h.cells ≡ length g.cells → number_of_stones d g < number_of_stones d h
    → length h.cells - number_of_stones d h < length g.cells - number_of_stones d g
falls d g h long more = omega (arith, long, more, count_by-le-length (is_of d) h.cells)
