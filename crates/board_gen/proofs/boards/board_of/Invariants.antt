use Rattle.std.proofs.Common.{◌≡◌, ℕ, ◌<◌, [], length}
use Rattle.go_grid.specs.Board.{cell_at}
use Rattle.board_gen.specs.Trial.{IsTrialCell}
use Rattle.board_gen.proofs.boards.board_of.Given as goal

abbrev pub invariant-filling : goal.invariant-filling
invariant-filling l = record {
  columns : l.board.columns ≡ 25;
  rows : l.board.rows ≡ 25;
  declared : l.board.declared ≡ [];
  full : length l.board.cells ≡ 625;
  each : (p : ℕ) → p < l.point → IsTrialCell l.fn.number p (cell_at l.board p);
}
