-- What counted points are worth.
use Rattle.std.proofs.Common.{◌↔◌, ◌≡◌, ℕ, zero, suc, ◌+◌, ◌*◌, ◌<◌, ◌≤◌, inl, inr, List, [], ◌∷◌, Bool, true, false, cond, length, get_or, ap, sym, ◌∙◌, refl, arith}
use Rattle.std.specs.List.{Contains, All, count_by, filter, sum_by}
use Rattle.std.specs.List.Sorted.{IsStrictlyIncreasing}
use Rattle.std.proofs.lemmas.Bool.{both_ways, cond_both}
use Rattle.std.proofs.lemmas.List.Elements.{All-contains, All-contains_itself, All-filter, Contains-append_cases, Contains-append_left, Contains-append_right, Contains-push_cases, filter_passes}
use Rattle.std.proofs.lemmas.List.Kept.{IsStrictlyIncreasing-filter}
use Rattle.std.proofs.lemmas.List.Sums.{length-filter, sum_by-cons, sum_by-le}
use Rattle.go_grid.specs.declared.grid.Cell.{Cell}
use Rattle.go_grid.specs.declared.grid.Cell.TheVariants as cell
use Rattle.go_grid.specs.declared.grid.Colour.{Colour}
use Rattle.go_grid.specs.declared.grid.Colour.TheVariants as colour
use Rattle.go_grid.specs.Board.{Board, HasStone, IsEmpty, cell_at, other, stone}
use Rattle.go_grid.specs.Marks.{Lists}
use Rattle.benson_life.specs.Held.{worth, cell_worth, IsHeld}
use Rattle.benson_life.specs.Life.{IsCounted}
use Rattle.benson_life.proofs.WallLemmas.{counted_inside}

-- a list of points of a board is no longer than the board
at_least : (points : List ℕ) → IsStrictlyIncreasing points → (k : ℕ) → k < length points → k ≤ get_or points k 0
at_least points up zero lt = omega arith
at_least points up (suc k) lt =
    let below : k ≤ get_or points k 0 = at_least points up k (omega arith) in
    let step : get_or points k 0 < get_or points (k + 1) 0 = up k (omega arith) in
    let same : get_or points (k + 1) 0 ≡ get_or points (suc k) 0 = ap (λ n. get_or points n 0) (omega arith) in
    omega arith

pub short : (points : List ℕ) (n : ℕ) → IsStrictlyIncreasing points → All (λ p. p < n) points → length points ≤ n
short [] n up inside = omega arith
short (x ∷ xs) n up inside =
    let last = at_least (x ∷ xs) up (length xs) (omega arith) in
    let top : get_or (x ∷ xs) (length xs) 0 < n = inside (length xs) 0 (omega arith) in
    omega arith

cell_worth_le : (c : Colour) (x : Cell) → cell_worth c x ≤ 2
cell_worth_le c cell.Empty = omega arith
cell_worth_le colour.Black cell.White = omega arith
cell_worth_le colour.Black cell.Black = omega arith
cell_worth_le colour.White cell.Black = omega arith
cell_worth_le colour.White cell.White = omega arith

pub worth_le : (g : Board) (c : Colour) (points : List ℕ) → sum_by (worth g c) points ≤ 2 * length points
worth_le g c points =
    omega (arith, sum_by-le (worth g c) 2 points (λ k d lt. cell_worth_le c (cell_at g (get_or points k d))))

-- the empty points of a list and the other colour's stones on it, by tests
abbrev is_empty : Cell → Bool
is_empty cell.Empty = true
is_empty cell.Black = false
is_empty cell.White = false

abbrev is_captive : Colour → Cell → Bool
is_captive c cell.Empty = false
is_captive colour.Black cell.White = true
is_captive colour.Black cell.Black = false
is_captive colour.White cell.Black = true
is_captive colour.White cell.White = false

empty_is : (x : Cell) → (is_empty x ≡ true) ↔ (x ≡ cell.Empty)
empty_is cell.Empty = (λ _. refl, λ _. refl)
empty_is cell.Black = (λ e. cc, λ e. cc)
empty_is cell.White = (λ e. cc, λ e. cc)

captive_is : (c : Colour) (x : Cell) → (is_captive c x ≡ true) ↔ (x ≡ stone (other c))
captive_is colour.Black cell.Empty = (λ e. cc, λ e. cc)
captive_is colour.White cell.Empty = (λ e. cc, λ e. cc)
captive_is colour.Black cell.White = (λ _. refl, λ _. refl)
captive_is colour.Black cell.Black = (λ e. cc, λ e. cc)
captive_is colour.White cell.Black = (λ _. refl, λ _. refl)
captive_is colour.White cell.White = (λ e. cc, λ e. cc)

worth_parts : (c : Colour) (x : Cell) → cell_worth c x ≡ cond (is_empty x) 1 0 + 2 * cond (is_captive c x) 1 0
worth_parts c cell.Empty = refl
worth_parts colour.Black cell.White = refl
worth_parts colour.Black cell.Black = refl
worth_parts colour.White cell.Black = refl
worth_parts colour.White cell.White = refl

sum_parts : (g : Board) (c : Colour) (points : List ℕ)
    → sum_by (worth g c) points ≡ count_by (λ p. is_empty (cell_at g p)) points + 2 * count_by (λ p. is_captive c (cell_at g p)) points
sum_parts g c [] = refl
sum_parts g c (p ∷ ps) =
    let rest = sum_parts g c ps in
    let here = worth_parts c (cell_at g p) in
    let a = sum_by-cons (worth g c) p ps in
    let b = sum_by-cons (λ p. cond (is_empty (cell_at g p)) 1 0) p ps in
    let d = sum_by-cons (λ p. cond (is_captive c (cell_at g p)) 1 0) p ps in
    omega (arith, rest, here, a, b, d)

from_filter : (test : ℕ → Bool) (xs : List ℕ) (p : ℕ) → Contains (filter test xs) p → Contains xs p × (test p ≡ true)
from_filter test xs p h = (
  All-contains (Contains xs) (filter test xs) p (All-filter test (Contains xs) xs (All-contains_itself xs)) h,
  All-contains (λ x. test x ≡ true) (filter test xs) p (filter_passes test xs) h,
)

in_filter : (test : ℕ → Bool) (xs : List ℕ) (p : ℕ) → Contains xs p → test p ≡ true → Contains (filter test xs) p
in_filter test [] p h t = absurd (omega (arith, h.1))
in_filter test (x ∷ xs) p h t =
    cond_both (test x) (x ∷ filter test xs) (filter test xs) (λ ys. Contains ys p)
    (λ on. elim (Contains-append_cases (x ∷ []) xs p h) as (λ _. Contains (x ∷ filter test xs) p) [
      | inl here ↦ Contains-append_left (x ∷ []) (filter test xs) p here
      | inr later ↦ Contains-append_right (x ∷ []) (filter test xs) p (in_filter test xs p later t)
    ])
    (λ off. elim (Contains-append_cases (x ∷ []) xs p h) as (λ _. Contains (filter test xs) p) [
      | inl here ↦ elim (Contains-push_cases [] x p here) as (λ _. Contains (filter test xs) p) [
        | inl none ↦ absurd (omega (arith, none.1))
        | inr same ↦ absurd (both_ways (test p) (ap test (sym same) ∙ off) t)
      ]
      | inr later ↦ in_filter test xs p later t
    ])

-- the listed points at which a test holds
lists_filter : (points : List ℕ) (P Q : ℕ → Type 0) (test : ℕ → Bool) → Lists points P → ((p : ℕ) → P p → (test p ≡ true) ↔ Q p)
    → Lists (filter test points) (λ p. P p × Q p)
lists_filter points P Q test l is = record {
  ascending = IsStrictlyIncreasing-filter test points l.ascending;
  exact = λ p. (
    λ h. let v = from_filter test points p h in let here = (l.exact p).0 v.0 in (here, (is p here).0 v.1),
    λ h. in_filter test points p ((l.exact p).1 h.0) ((is p h.0).1 h.1),
  );
}

pub held_is : (g : Board) (c : Colour) (points : List ℕ) (n : ℕ) → n ≡ sum_by (worth g c) points → Lists points (IsCounted g c) → IsHeld g c n
held_is g c points n e l = record {
  empty = count_by (λ p. is_empty (cell_at g p)) points;
  captive = count_by (λ p. is_captive c (cell_at g p)) points;
  empties = (
    filter (λ p. is_empty (cell_at g p)) points,
    lists_filter points (IsCounted g c) (IsEmpty g) (λ p. is_empty (cell_at g p)) l
        (λ p h. (λ t. (counted_inside g c p h, (empty_is (cell_at g p)).0 t), λ k. (empty_is (cell_at g p)).1 k.1)),
    length-filter (λ p. is_empty (cell_at g p)) points,
  );
  captives = (
    filter (λ p. is_captive c (cell_at g p)) points,
    lists_filter points (IsCounted g c) (HasStone g (other c)) (λ p. is_captive c (cell_at g p)) l
        (λ p h. (λ t. (counted_inside g c p h, (captive_is c (cell_at g p)).0 t), λ k. (captive_is c (cell_at g p)).1 k.1)),
    length-filter (λ p. is_captive c (cell_at g p)) points,
  );
  sum = e ∙ sum_parts g c points;
}
