use Rattle.std.proofs.Common.{◌≡◌, [], length}
use Rattle.drawings.proofs.boards.board.Given as goal

abbrev pub invariant-loop-number : goal.invariant-loop-number
invariant-loop-number l = (length l.board.cells ≡ length l.initial.board.cells) × (l.board.declared ≡ [])
