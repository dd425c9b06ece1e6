use Rattle.std.proofs.Common.{◌≡◌, take, All}
use Rattle.go_grid.specs.declared.grid.Cell.TheVariants.{Empty}
use Rattle.board_orders.proofs.handicap.is_bare.Given as goal

abbrev pub invariant-points : goal.invariant-points
invariant-points l = All (λ x. x ≡ Empty) (take l.number l.board.cells)
