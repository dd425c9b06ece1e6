use Rattle.std.proofs.Common.{rules, inl, inr, ◌<◌}
use Rattle.go_grid.proofs.PointsLemmas.{chosen_are, marked_short}
use Rattle.go_grid.proofs.points.Points.union.Goals as goal

pub returns : goal.returns
returns c =
    chosen_are 625 _ _ _ c.chosen.ensures
    (λ p h. elim h as (λ _. p < 625) [
      | inl m ↦ marked_short _ 625 p (rw c.self.view_is at c.self.told) m
      | inr m ↦ marked_short _ 625 p (rw c.other.view_is at c.other.told) m
    ]) (λ p b lt a. search rules)
