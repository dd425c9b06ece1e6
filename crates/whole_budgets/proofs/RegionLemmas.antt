-- The position of a region on a board is the one that the board holds there, and a stone's is that of its local move.
use Rattle.std.proofs.Common.{◌≡◌, ℕ, ◌<◌, sym, ap, ◌∙◌, arith, List, length, slice_index, subst}
use Rattle.std.proofs.lemmas.List.{ext_get_or, length-map, get_or-map}
use Rattle.std.proofs.lemmas.List.Elements.{Contains-get_or}
use Rattle.go_grid.specs.declared.grid.Cell.{Cell}
use Rattle.go_grid.specs.declared.grid.Cell.TheVariants as cell
use Rattle.go_grid.specs.Board.{Board, cell_at}
use Rattle.go_grid.specs.Play.{held_at}
use Rattle.go_grid.specs.Region.{Region}
use Rattle.go_grid.proofs.PlayLemmas.{long_after}
use Rattle.local_graph.specs.Returns.{IsCapture, Returns}
use Rattle.region_cut.specs.LocalBoard.{HoldsPosition, IsLocal}
use Rattle.region_cut.proofs.LocalBoardLemmas.{plays_locally}
use Rattle.whole_rules.specs.WholeGame.{Whole}
use Rattle.whole_rules.proofs.WallLaws.{Keeps}
use Rattle.whole_budgets.specs.BudgetPlay.{position_on}
use Rattle.whole_budgets.specs.BudgetPlayLaws.{StonesReturnLocally}

pub position_is : (r : Region) (h : Board) (cells : List Cell) → length cells ≡ length r.points
    → ((i : ℕ) → i < length r.points → cell_at h (slice_index r.points i) ≡ held_at cells i) → position_on r h ≡ cells
position_is r h cells long same =
    let mapped = length-map r.points (λ p. cell_at h p) in
    ext_get_or cell.Empty _ _ (mapped ∙ sym long)
    (λ i lt. get_or-map (λ p. cell_at h p) r.points i 0 cell.Empty (omega (arith, lt, mapped)) ∙ same i (omega (arith, lt, mapped)))

-- on a state that keeps its walls the board holds the position
pub held : (g : Board) (r : Region) (s : Whole) → Keeps g s → HoldsPosition g r (position_on r s.board) s.board
held g r s keeps = record {
  walls = keeps.walls;
  long = length-map r.points (λ p. cell_at s.board p);
  local = λ i lt. sym (get_or-map (λ p. cell_at s.board p) r.points i 0 cell.Empty lt);
}

pub return_locally : StonesReturnLocally
return_locally g r s t i before after settled play holds lt (inside, (h, (n, placed, taken, is))) local =
    let there : t.board ≡ h = ap (λ z. z.board) is in
    let now : position_on r s.board ≡ before = position_is r s.board before holds.long holds.local in
    let moved : IsLocal r s.board h before after = (plays_locally g r settled play).local before after s.board h s.side i holds lt placed local in
    let then : position_on r t.board ≡ after =
    ap (position_on r) there ∙ position_is r h after (long_after local ∙ holds.long) moved.inside in (
      λ (in', takes, returns). (
        subst (λ z. IsCapture before z) then (subst (λ z. IsCapture z (position_on r t.board)) now takes),
        subst (λ z. Returns r.touch before z) then (subst (λ z. Returns r.touch z (position_on r t.board)) now returns),
      ),
      λ (takes, returns). (
        Contains-get_or r.points i 0 lt,
        subst (λ z. IsCapture (position_on r s.board) z) (sym then) (subst (λ z. IsCapture z after) (sym now) takes),
        subst (λ z. Returns r.touch (position_on r s.board) z) (sym then) (subst (λ z. Returns r.touch z after) (sym now) returns),
      ),
    )
