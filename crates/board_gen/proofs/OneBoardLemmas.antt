-- A number draws one board.
use Rattle.std.proofs.Common.{◌≡◌, ℕ, ◌/◌, ◌%◌, ◌<◌, inl, inr, refl, sym, ◌∙◌, arith}
use Rattle.std.proofs.lemmas.Bool.{cases_lt}
use Rattle.std.proofs.lemmas.List.{ext_get_or}
use Rattle.std.proofs.lemmas.Nat.{div_below}
use Rattle.std.specs.Prelude.{slice_index}
use Rattle.go_grid.specs.declared.grid.Cell.{Cell}
use Rattle.go_grid.specs.declared.grid.Cell.TheVariants as cell
use Rattle.go_grid.specs.Board.{Board, cell_at}
use Rattle.board_gen.specs.Trial.{IsDrawnBy, IsInSomeCorridor, IsTrialBoard, IsTrialCell, last_row}
use Rattle.board_gen.proofs.SettledLemmas.{owner_of}
use Rattle.go_grid.proofs.BoardLemmas.{cell_stable}

-- a letter draws one cell
one_drawn : (letter : ℕ) (x y : Cell) → IsDrawnBy letter x → IsDrawnBy letter y → x ≡ y
one_drawn letter cell.Empty cell.Empty a b = refl
one_drawn letter cell.Black cell.Black a b = refl
one_drawn letter cell.White cell.White a b = refl
one_drawn letter cell.Empty cell.Black a b = absurd (a.0 b)
one_drawn letter cell.Empty cell.White a b = absurd (a.1 b)
one_drawn letter cell.Black cell.Empty a b = absurd (b.0 a)
one_drawn letter cell.White cell.Empty a b = absurd (b.1 a)
one_drawn letter cell.Black cell.White a b = absurd (omega (arith, a, b))
one_drawn letter cell.White cell.Black a b = absurd (omega (arith, a, b))

-- a point of the board holds one cell
one_cell : (number p : ℕ) (x y : Cell) → p < 625 → IsTrialCell number p x → IsTrialCell number p y → x ≡ y
one_cell number p x y inside a b = elim (cases_lt (p / 25) 24) [
  | inl low ↦ (
      let own = owner_of (p % 25) in
      cell_stable x y (λ differ.
      let out : ¬ IsInSomeCorridor number p = λ within. differ (a.corridor low within ∙ sym (b.corridor low within)) in
      differ (a.wall own.0 low out own.1 ∙ sym (b.wall own.0 low out own.1)))
      )
  | inr high ↦ (
      let row : p / 25 ≡ 24 = omega (arith, high, div_below p 25 25 (omega arith) inside) in
      one_drawn (slice_index last_row (p % 25)) x y (a.last row) (b.last row)
      )
]

pub one_board : (number : ℕ) (g h : Board) → IsTrialBoard number g → IsTrialBoard number h → g ≡ h
one_board number g h a b =
    let columns = a.columns ∙ sym b.columns in
    let rows = a.rows ∙ sym b.rows in
    let cells = ext_get_or cell.Empty g.cells h.cells (a.full ∙ sym b.full) (λ p lt.
    let inside : p < 625 = omega (arith, lt, a.full) in one_cell number p (cell_at g p) (cell_at h p) inside (a.each p inside) (b.each p inside)) in
    λ i. record { columns = columns i; rows = rows i; cells = cells i; declared = (a.declared ∙ sym b.declared) i }
