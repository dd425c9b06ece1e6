use Rattle.std.proofs.Common.{◌<◌, ◌∙◌, ap, sym, subst}
use Rattle.std.proofs.lemmas.Bool.{both_ways}
use Rattle.std.proofs.lemmas.List.Elements.{Contains-get_or}
use Rattle.local_graph.specs.declared.graph.Edge.{Edge}
use Rattle.local_graph.specs.inner.Graph.{no_edge}
use Rattle.endgame_solver.specs.Regions.{IsStoneAt}
use Rattle.endgame_solver.specs.inner.Views.{own}
use Rattle.endgame_solver.proofs.WinningLaws.{none_before_more}
use Rattle.endgame_solver.proofs.winning_moves.edge_in.Goals as goal

pub own-own-requires : goal.own-own-requires
own-own-requires c = subst (λ (e : Edge). e.place < 32) (sym c.get.ensures)
    (c.requires _ (Contains-get_or c.args.edges.now c.edges.number no_edge (subst (λ n. c.edges.number < n) c.len-number-end.ensures c.edges-test.true)))

pub edges-preserved : goal.edges-preserved
edges-preserved c =
    none_before_more c.args.region.now c.args.view c.args.edges.now c.args.colour c.args.point c.edges.number
    (λ h. both_ways c.is_stone_at.result c.if-is_stone_at.false
    (c.is_stone_at.ensures.1 (subst (IsStoneAt c.args.region.now c.args.colour c.args.point) (sym (c.own-own.ensures
    ∙ ap (own c.args.view) c.get.ensures)) h)))
    c.edges.invariant
