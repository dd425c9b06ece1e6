-- A board without the stones of a set, and how many there are.
use Rattle.std.proofs.Common.{◌≡◌, ℕ, ◌+◌, ◌<◌, List, [], ◌∷◌, suc, zero, Bool, true, false, length, get_or, set, refl, ap, ◌∙◌, arith, cond}
use Rattle.std.specs.List.{count_by}
use Rattle.std.proofs.lemmas.Bool.{false_from_ne_true}
use Rattle.std.proofs.lemmas.List.Sums.{sum_by-set, sum_by-cons}
use Rattle.go_grid.specs.declared.grid.Cell.{Cell}
use Rattle.go_grid.specs.declared.grid.Cell.TheVariants as cell
use Rattle.go_grid.specs.declared.grid.Colour.{Colour}
use Rattle.go_grid.specs.declared.grid.Colour.TheVariants as colour
use Rattle.go_grid.specs.Board.{Board, IsEmpty, cell_at, stone, other}
use Rattle.go_grid.specs.Marks.{IsMarked, Marks}
use Rattle.go_grid.proofs.PointsLemmas.{no_mark}
use Rattle.go_grid.specs.Play.{is_stone, IsWithout}
use Rattle.go_grid.specs.Play as play
use Rattle.go_grid.proofs.PlayLemmas.{one_without}
use Rattle.go_play.specs.Place.{IsCleared, IsTaken}
use Rattle.go_play.proofs.BoardPlayLemmas.{taken_stone}

-- the cells, without those that are marked
abbrev pub strip : List Bool → List Cell → List Cell
strip [] xs = xs
strip (m ∷ ms) [] = []
strip (m ∷ ms) (x ∷ xs) = cond m cell.Empty x ∷ strip ms xs

length-strip : (ms : List Bool) (xs : List Cell) → length (strip ms xs) ≡ length xs
length-strip [] xs = refl
length-strip (m ∷ ms) [] = refl
length-strip (m ∷ ms) (x ∷ xs) = ap suc (length-strip ms xs)

both_empty : (b : Bool) → cell.Empty ≡ cond b cell.Empty cell.Empty
both_empty true = refl
both_empty false = refl

get-strip : (ms : List Bool) (xs : List Cell) (q : ℕ)
    → get_or (strip ms xs) q cell.Empty ≡ cond (get_or ms q false) cell.Empty (get_or xs q cell.Empty)
get-strip [] xs q = refl
get-strip (m ∷ ms) [] q = both_empty (get_or (m ∷ ms) q false)
get-strip (m ∷ ms) (x ∷ xs) zero = refl
get-strip (m ∷ ms) (x ∷ xs) (suc q) = get-strip ms xs q

-- each marked cell is a stone
abbrev AllStones : List Bool → List Cell → Type 0
AllStones ms xs = (q : ℕ) → IsMarked ms q → (q < length xs) × (is_stone (get_or xs q cell.Empty) ≡ true)

counted-cons : {X : Type 0} (p : X → Bool) (x : X) (xs : List X) → count_by p (x ∷ xs) ≡ cond (p x) 1 0 + count_by p xs
counted-cons p x xs = sum_by-cons (λ y. cond (p y) 1 0) x xs

counted-strip : (ms : List Bool) (xs : List Cell) → AllStones ms xs
    → count_by is_stone (strip ms xs) + count_by (λ m. m) ms ≡ count_by is_stone xs
counted-strip [] xs all = omega arith
counted-strip (m ∷ ms) [] all = omega (arith, no_mark (m ∷ ms) (λ q k. omega (arith, (all q k).0)))
counted-strip (true ∷ ms) (x ∷ xs) all =
    let more : count_by is_stone (x ∷ xs) ≡ 1 + count_by is_stone xs =
    counted-cons is_stone x xs ∙ ap (λ b. cond b 1 0 + count_by is_stone xs) (all 0 refl).1 in
    let rest = counted-strip ms xs (λ q m. let w = all (suc q) m in (omega (arith, w.0), w.1)) in
    omega (arith, rest, counted-cons is_stone cell.Empty (strip ms xs), counted-cons (λ m. m) true ms)
counted-strip (false ∷ ms) (x ∷ xs) all =
    let rest = counted-strip ms xs (λ q m. let w = all (suc q) m in (omega (arith, w.0), w.1)) in
    omega (arith, rest, counted-cons is_stone x (strip ms xs), counted-cons (λ m. m) false ms, counted-cons is_stone x xs)

pub without_stripped : (cells : List Cell) (P : ℕ → Type 0) (ms : List Bool) → Marks ms P → IsWithout cells P (strip ms cells)
without_stripped cells P ms is = record {
  long = length-strip ms cells;
  gone = λ q t. let on = (is q).1 t in get-strip ms cells q ∙ ap (λ m. cond m cell.Empty (get_or cells q cell.Empty)) on;
  kept = λ q n.
      let off = false_from_ne_true (get_or ms q false) (λ m. n ((is q).0 m)) in
      get-strip ms cells q ∙ ap (λ m. cond m cell.Empty (get_or cells q cell.Empty)) off;
}

stone_is : (c : Colour) → is_stone (stone c) ≡ true
stone_is colour.Black = refl
stone_is colour.White = refl

pub number_taken : (g : Board) (p : ℕ) (c : Colour) (cells : List Cell) (taken : List Bool) → IsEmpty g p → Marks taken (IsTaken g p c)
    → IsCleared g p c cells → play.IsNumberTaken g.cells cells (count_by (λ m. m) taken)
number_taken g p c cells taken free is w =
    let b = set g.cells p (stone c) in
    let same = one_without b (IsTaken g p c) cells (strip taken b) w (without_stripped b (IsTaken g p c) taken is) in
    let all = counted-strip taken b (λ q m. let t = taken_stone g p c q ((is q).0 m) in
    (t.0, ap is_stone t.1 ∙ stone_is (other c))) in
    let rise = sum_by-set (λ y. cond (is_stone y) 1 0) g.cells p (stone c) cell.Empty free.0 in
    let was : is_stone (cell_at g p) ≡ false = ap is_stone free.1 in
    let more : count_by is_stone b ≡ count_by is_stone g.cells + 1 =
    omega (arith, rw (was, stone_is c) at rise) in
    rw same (omega (arith, all, more))

-- the same places by another name
pub without_marked : (cells : List Cell) (P : ℕ → Type 0) (ms : List Bool) (after : List Cell) → Marks ms P
    → IsWithout cells (IsMarked ms) after → IsWithout cells P after
without_marked cells P ms after is w = record {
  long = w.long;
  gone = λ q t. w.gone q ((is q).1 t);
  kept = λ q n. w.kept q (λ m. n ((is q).0 m));
}
