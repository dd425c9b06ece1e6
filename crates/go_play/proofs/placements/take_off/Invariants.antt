use Rattle.std.proofs.Common.{◌<◌}
use Rattle.go_grid.specs.Marks.{IsMarked}
use Rattle.go_grid.specs.Play.{IsWithout}
use Rattle.go_play.specs.Place.{IsSameGround}
use Rattle.go_play.proofs.placements.take_off.Given as goal

abbrev pub invariant-loop-number : goal.invariant-loop-number
invariant-loop-number l = IsSameGround l.fn.board l.board × IsWithout l.fn.board.cells (λ q. IsMarked l.points q × (q < l.number)) l.board.cells
