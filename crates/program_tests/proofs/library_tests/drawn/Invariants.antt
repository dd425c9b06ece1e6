use Rattle.std.proofs.Common.{◌≡◌, length}
use Rattle.program_tests.proofs.library_tests.drawn.Given as goal

abbrev pub invariant-loop-number : goal.invariant-loop-number
invariant-loop-number l = length l.board.cells ≡ length l.initial.board.cells
