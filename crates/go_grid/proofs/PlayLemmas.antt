-- Laws of placing on a list of cells.
use Rattle.std.proofs.Common.{◌≡◌, ℕ, ◌<◌, inl, inr, sym, ◌∙◌, List, length}
use Rattle.std.proofs.lemmas.Bool.{cases_lt}
use Rattle.std.proofs.lemmas.List.{ext_get_or, get_or_past, length-set}
use Rattle.go_grid.specs.declared.grid.Cell.{Cell}
use Rattle.go_grid.specs.declared.grid.Cell.TheVariants as cell
use Rattle.go_grid.specs.declared.grid.Colour.{Colour}
use Rattle.go_grid.specs.Board.{stone, other}
use Rattle.go_grid.specs.Play.{held_at, with_stone, Holds, IsPlaced, IsTaken, IsWithout}
use Rattle.go_grid.proofs.BoardLemmas.{cell_stable, empty_not_stone}

-- what holds a stone is a place of the list
pub held_inside : (cells : List Cell) (c : Colour) (p : ℕ) → Holds cells c p → p < length cells
held_inside cells c p h = elim (cases_lt p (length cells)) as (λ _. p < length cells) [
  | inl lt ↦ lt
  | inr past ↦ absurd (empty_not_stone c (sym (get_or_past cells p cell.Empty past) ∙ h))
]

-- one list alone is another without these stones
pub one_without : (cells : List Cell) (Gone : ℕ → Type 0) (a b : List Cell) → IsWithout cells Gone a → IsWithout cells Gone b → a ≡ b
one_without cells Gone a b w v =
    ext_get_or cell.Empty a b (w.long ∙ sym v.long) (λ q _. cell_stable (held_at a q) (held_at b q) (λ differ.
    let out : ¬ Gone q = λ i. differ (w.gone q i ∙ sym (v.gone q i)) in
    differ (w.kept q out ∙ sym (v.kept q out))))

-- a placing has one outcome, as long as the list before
pub one_outcome : {Next : ℕ → ℕ → Type 0} {Free : Colour → ℕ → Type 0} {cells a b : List Cell} {p : ℕ} {c : Colour}
    → IsPlaced Next Free cells p c a → IsPlaced Next Free cells p c b → a ≡ b
one_outcome {Next} {Free} {cells} {a} {b} {p} {c} m n =
    one_without (with_stone cells p c) (IsTaken Next Free (with_stone cells p c) p (other c)) a b m.without n.without

pub long_after : {Next : ℕ → ℕ → Type 0} {Free : Colour → ℕ → Type 0} {cells after : List Cell} {p : ℕ} {c : Colour}
    → IsPlaced Next Free cells p c after → length after ≡ length cells
long_after {Next} {Free} {cells} {after} {p} {c} m = m.without.long ∙ length-set cells p (stone c)
