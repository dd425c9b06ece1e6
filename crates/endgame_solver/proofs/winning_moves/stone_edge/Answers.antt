use Rattle.std.proofs.Common.{arith, subst, Contains}
use Rattle.std.proofs.lemmas.List.{get_or_read}
use Rattle.endgame_solver.specs.Regions.{no_region}
use Rattle.endgame_solver.proofs.WinningLaws.{none_more, some_found}
use Rattle.endgame_solver.proofs.winning_moves.stone_edge.Goals as goal

pub edge_in-requires : goal.edge_in-requires
edge_in-requires c = λ f among.
    (c.requires.views_are.each c.regions.k c.regions-test.true).seen.inside _ f (subst (λ es. Contains es f) c.edges_seen-edges.ensures among)

pub returns-in-Some-clause-edges : goal.returns-in-Some-clause-edges
returns-in-Some-clause-edges c =
    let at = get_or_read c.args.regions.now c.regions.k c.index-regions-k.result c.regions-test.true c.index-regions-k.is no_region in
    some_found c.args.book.now c.args.colour c.args.point c.regions-test.true at c.view_of-view.ensures c.edges_seen-edges.ensures c.in-Some.edge c.in-Some.ensures

pub regions-preserved : goal.regions-preserved
regions-preserved c =
    let at = get_or_read c.args.regions.now c.regions.k c.index-regions-k.result c.regions-test.true c.index-regions-k.is no_region in
    none_more c.args.book.now c.args.colour c.args.point c.regions-test.true at c.view_of-view.ensures c.edges_seen-edges.ensures c.regions.invariant (c.in_default.ensures {u =
    tt})

pub returns-clause-edges : goal.returns-clause-edges
returns-clause-edges c = λ graphs values shows k e x. c.regions.invariant graphs values shows k e (omega (arith, x.known, c.regions-test.false)) x
