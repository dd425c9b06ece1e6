use Rattle.std.proofs.Common.{arith, get_or}
use Rattle.std.proofs.lemmas.List.Elements.{Contains-get_or}
use Rattle.go_grid.proofs.PointsLemmas.{lists_same}
use Rattle.benson_life.specs.Groups.{IsLeader}
use Rattle.benson_life.proofs.HeldLemmas.{short}
use Rattle.benson_life.proofs.StrikingLemmas.{alive_stone}
use Rattle.benson_life.proofs.chain_groups.number_of_groups.Goals as goal

pub overflow_cast-result : goal.overflow_cast-result
overflow_cast-result c =
    let xs = c.in_ok-leaders.leaders.items in
    let few = short xs _ c.in_ok-leaders.ensures.ascending (λ k d lt.
    let leader = (c.leaders.ensures (get_or xs k d)).0 ((c.in_ok-leaders.ensures.exact (get_or xs k d)).0 (Contains-get_or xs k d lt)) in
    (alive_stone c.args.board.now c.args.colour (get_or xs k d) leader.0).0) in
    omega (arith, few, c.len.ensures, c.in_ok-leaders.leaders.ok, c.size-size.ensures.most)

pub returns : goal.returns
returns c =
    let xs = c.in_ok-leaders.leaders.items in
    (xs, lists_same xs _ (IsLeader c.args.board.now c.args.colour) c.in_ok-leaders.ensures c.leaders.ensures, omega (arith, c.len.ensures, c.in_ok-leaders.leaders.ok))
