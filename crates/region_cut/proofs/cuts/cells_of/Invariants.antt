use Rattle.std.proofs.Common.{◌≡◌, ℕ, ◌<◌, get_or, length}
use Rattle.go_grid.specs.declared.grid.Cell.TheVariants.{Empty}
use Rattle.go_grid.specs.Board.{cell_at}
use Rattle.region_cut.proofs.cuts.cells_of.Given as goal

abbrev pub invariant-reading : goal.invariant-reading
invariant-reading l = record {
  long : length l.cells.items ≡ l.point-index;
  each : (i : ℕ) → i < l.point-index → get_or l.cells.items i Empty ≡ cell_at l.board (get_or l.points i 0);
}
