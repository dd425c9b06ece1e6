use Rattle.std.proofs.Common.{arith}
use Rattle.std.proofs.lemmas.List.Elements.{Contains-get_or}
use Rattle.go_grid.proofs.BoardLemmas.{area_most}
use Rattle.go_grid.proofs.NearLemmas.{four_added}
use Rattle.go_grid.proofs.near_points.NearPoints.look_around.Goals as goal

pub returns-clause-around : goal.returns-clause-around
returns-clause-around c q =
    let next = c.neighbours-near.ensures.near.next q in
    let listed = four_added _ _ _ _ _ _ _ _ _ c.clear.ensures c.add.ensures.points c.add-2.ensures.points c.add-3.ensures.points
    c.add-4.ensures.points q in
    (λ h. next.1 (listed.0 h), λ n. listed.1 (next.0 n))

pub returns-clause-on_board : goal.returns-clause-on_board
returns-clause-on_board c k d lt = ((returns-clause-around c _).0 (Contains-get_or _ k d lt)).0

pub returns-clause-inside : goal.returns-clause-inside
returns-clause-inside c k d lt =
    omega (arith, returns-clause-on_board c k d lt, area_most c.args.size.columns c.args.size.rows (omega arith) (omega arith))
