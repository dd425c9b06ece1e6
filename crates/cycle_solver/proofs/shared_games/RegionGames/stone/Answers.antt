use Rattle.std.proofs.Common.{◌<◌, ◌∙◌, ap, arith, length, subst, sym}
use Rattle.std.proofs.lemmas.List.{length-map}
use Rattle.local_graph.specs.inner.Graph.{edges_at}
use Rattle.cycle_solver.specs.GameLists.{game_at}
use Rattle.cycle_solver.specs.Turned.{own_edges, own_game}
use Rattle.cycle_solver.proofs.SharedLaws.{edges_shown, stones_over}
use Rattle.cycle_solver.proofs.shared_games.RegionGames.stone.Goals as goal

pub returns : goal.returns
returns c =
    let book = c.self.inside.book in
    let k = c.args.number in
    let v = c.index-view.result.now in
    let lt : k < length book.views.items = omega (
      arith,
      c.requires.number,
      ap (λ games. length games) c.self.view_is,
      length-map book.views.items (λ w. own_game book.negatives.items w (game_at book.games.items w.game)),
    ) in
    let inside = subst (λ w. w.game < length book.games.items) (sym c.index-view.ensures) (c.self.invariant k v lt) in
    let edges = c.edges-edges.ensures ∙ ap (λ es. edges_at es c.args.place) c.graph.ensures.edges in
    let all = ap (λ games. edges_at (game_at games k).graph.edges c.args.place) (sym c.self.view_is)
    ∙ edges_shown book k c.args.place v c.index.result.now lt inside c.index-view.ensures c.index.ensures ∙ ap (own_edges v) (sym edges) in
    stones_over c.args.region.now c.args.colour c.args.point v c.edges-edges.result (edges_at (game_at c.args.self.now k).graph.edges c.args.place) all
    c.edge_in.result c.edge_in.ensures
