use Rattle.std.proofs.Common.{◌≡◌}
use Rattle.go_grid.specs.Marks.{IsMarked, Marks, Touches}
use Rattle.go_grid.specs.Parts.{label}
use Rattle.go_grid.proofs.PointsLemmas.{Noted}
use Rattle.benson_life.proofs.walls.labels_beside.Given as goal

abbrev pub invariant-loop-number : goal.invariant-loop-number
invariant-loop-number l =
    Marks l.found
    (Noted (λ p r. IsMarked l.within p × (label l.labels p ≡ r) × Touches l.size.columns l.points p) l.number)
