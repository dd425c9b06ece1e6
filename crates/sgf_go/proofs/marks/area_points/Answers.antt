use Rattle.std.proofs.Common.{rules, arith}
use Rattle.go_grid.proofs.PointsLemmas.{chosen_are}
use Rattle.sgf_go.proofs.MarkLemmas.{area_within}
use Rattle.sgf_go.proofs.marks.area_points.Goals as goal

pub returns : goal.returns
returns c =
    chosen_are _ _ _ _ c.chosen.ensures
    (λ p h. let within = area_within c.args.size c.args.area p c.requires.row h c.args.size.columns_in.0 in omega (arith, within, c.area.ensures.value))
    (λ p b lt a. search rules)
