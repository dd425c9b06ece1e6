use Rattle.std.proofs.Common.{◌↔◌, IsTrue, ap, arith, subst, sym}
use Rattle.local_graph.specs.ReturnGraph.{IsReturningCaptureAt}
use Rattle.cycle_solver.proofs.SharedLaws.{game_seen, positions_seen, view_inside, view_known}
use Rattle.cycle_solver.proofs.shared_games.RegionGames.is_returning.Goals as goal

pub index-view-requires : goal.index-view-requires
index-view-requires c =
    let book = c.self.inside.book in
    omega (arith, view_known book c.args.number c.args.self.now c.self.view_is c.requires.number, book.views.ok)

pub index-requires : goal.index-requires
index-requires c =
    let book = c.self.inside.book in
    omega (arith, view_inside book c.args.number c.self.view_is c.requires.number c.self.invariant c.index-view.result.now c.index-view.ensures, book.games.ok)

pub is_returning_capture-requires-clause-place : goal.is_returning_capture-requires-clause-place
is_returning_capture-requires-clause-place c =
    omega (arith, c.requires.place, positions_seen c.self.inside.book c.args.number c.self.view_is c.requires.number c.self.invariant c.index-view.result.now c.index.result.now c.index-view.ensures c.index.ensures)

pub is_returning_capture-requires-clause-next : goal.is_returning_capture-requires-clause-next
is_returning_capture-requires-clause-next c =
    omega (arith, c.requires.next, positions_seen c.self.inside.book c.args.number c.self.view_is c.requires.number c.self.invariant c.index-view.result.now c.index.result.now c.index-view.ensures c.index.ensures)

pub returns : goal.returns
returns c =
    let same = game_seen c.self.inside.book c.args.number c.self.view_is c.requires.number c.self.invariant c.index-view.result.now c.index.result.now c.index-view.ensures c.index.ensures in
    subst (λ cs. IsTrue c.is_returning_capture.result ↔ IsReturningCaptureAt c.args.edge.colour cs c.args.place c.args.edge)
    (ap (λ g. g.graph.components) (sym same)) c.is_returning_capture.ensures
