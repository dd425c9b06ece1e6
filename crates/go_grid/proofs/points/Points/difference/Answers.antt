use Rattle.std.proofs.Common.{rules}
use Rattle.go_grid.proofs.PointsLemmas.{chosen_are, marked_short}
use Rattle.go_grid.proofs.points.Points.difference.Goals as goal

pub returns : goal.returns
returns c =
    chosen_are 625 _ _ _ c.chosen.ensures (λ p h. marked_short _ 625 p (rw c.self.view_is at c.self.told) h.0)
    (λ p b lt a. search rules)
