use Rattle.region_book.proofs.BeginLaws.{Beginning}
use Rattle.region_book.proofs.symmetry.begin.Given as goal

abbrev pub invariant-loop-place : goal.invariant-loop-place
invariant-loop-place l = Beginning l.region l.symmetry l.place l.column l.row
