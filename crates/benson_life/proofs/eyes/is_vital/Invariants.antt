use Rattle.std.proofs.Common.{◌≡◌, ℕ, ◌<◌}
use Rattle.go_grid.specs.Chain.{IsLiberty}
use Rattle.go_grid.specs.Marks.{IsMarked}
use Rattle.go_grid.specs.Parts.{label}
use Rattle.benson_life.proofs.eyes.is_vital.Given as goal

abbrev pub invariant-loop-number : goal.invariant-loop-number
invariant-loop-number l =
    (p : ℕ) → p < l.number → IsMarked l.survey.empties p → label l.survey.regions p ≡ l.region → IsLiberty l.board l.colour l.chain p
