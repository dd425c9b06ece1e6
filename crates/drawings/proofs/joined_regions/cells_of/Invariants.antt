use Rattle.std.proofs.Common.{◌≡◌, length}
use Rattle.drawings.proofs.joined_regions.cells_of.Given as goal

abbrev pub invariant-loop-place : goal.invariant-loop-place
invariant-loop-place l = length l.cells.items ≡ l.place
