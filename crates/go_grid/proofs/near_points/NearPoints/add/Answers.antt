use Rattle.std.proofs.Common.{arith, ◌<◌, ◌≡◌, length, take}
use Rattle.std.proofs.lemmas.List.{take_more_set, length-take-le}
use Rattle.go_grid.proofs.NearLemmas.{push_contains}
use Rattle.go_grid.proofs.near_points.NearPoints.add.Goals as goal

pub returns-in-Some-clause-points : goal.returns-in-Some-clause-points
returns-in-Some-clause-points c q =
    let n = c.self.inside.number in
    let long : length (take n c.self.inside.points) ≡ n = length-take-le n c.self.inside.points (omega arith) in
    let short : n < length c.self.inside.points = omega (arith, long, rw (← c.self.view_is) at c.requires) in
    rw (← c.self.view_is, c.in-Some.is, take_more_set c.self.inside.points n c.in-Some.near short)
    (push_contains _ c.in-Some.near q)
