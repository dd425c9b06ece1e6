use Rattle.std.proofs.Common.{◌-◌, ◌≤◌, length, arith}
use Rattle.local_graph.proofs.EdgeListLemmas.{node_inside}
use Rattle.local_graph.proofs.SearchLemmas.{said_inside, said_left, said_nexts}
use Rattle.local_graph.proofs.search.Search.next_frame.Goals as goal

pub at-moves-requires : goal.at-moves-requires
at-moves-requires c =
    let s = c.args.self.now in
    node_inside c.args.edges.now c.args.last.node (c.args.last.left - 1)
    (said_inside c.args.edges.now s.path.items c.args.last s.visits.items s.order.items c.requires.ends c.requires.under_way
    (c.args.last.left - 1) (omega (arith, c.requires.more)))

pub last_unplaced-left-requires-clause-within : goal.last_unplaced-left-requires-clause-within
last_unplaced-left-requires-clause-within c =
    let s = c.args.self.now in
    rw c.at-moves.ensures (said_left c.args.edges.now s.path.items c.args.last s.visits.items s.order.items c.requires.ends c.requires.under_way)

pub last_unplaced-left-requires-clause-inside : goal.last_unplaced-left-requires-clause-inside
last_unplaced-left-requires-clause-inside c k lt =
    let s = c.args.self.now in
    rw (c.at-moves.ensures, c.deref.ensures.value)
    (said_nexts c.args.edges.now s.path.items c.args.last s.visits.items s.order.items c.requires.ends c.requires.under_way c.requires.rooted k lt)

pub get-requires : goal.get-requires
get-requires c =
    let s = c.args.self.now in
    let within : c.args.last.left ≤ length c.at-moves.result =
    rw c.at-moves.ensures (said_left c.args.edges.now s.path.items c.args.last s.visits.items s.order.items c.requires.ends c.requires.under_way) in
    omega (arith, within, c.last_unplaced-left.ensures.fewer)
