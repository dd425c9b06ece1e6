use Rattle.std.proofs.Common.{◌≡◌, length}
use Rattle.drawings.proofs.regions.cells_of.Given as goal

abbrev pub invariant-loop-number : goal.invariant-loop-number
invariant-loop-number l = length l.held.items ≡ l.number
