use Rattle.std.proofs.Common.{rules, arith}
use Rattle.go_grid.proofs.PointsLemmas.{chosen_are}
use Rattle.sgf_go.proofs.territory.dead_stones.Goals as goal

pub returns : goal.returns
returns c =
    chosen_are _ _ _ _ c.chosen.ensures (λ p h. omega (arith, c.requires p h.0, c.area.ensures.value, c.size.ensures.area))
    (λ p b lt a. search rules)
