use Rattle.std.proofs.Common.{◌*◌}
use Rattle.go_grid.specs.Marks.{IsWithin}
use Rattle.drawings.proofs.joined_regions.points_of.Given as goal

abbrev pub invariant-marking : goal.invariant-marking
invariant-marking l = IsWithin (l.size.columns * l.size.rows) l.found
