use Rattle.std.proofs.Common.{◌∙◌, ap, arith, length, sym}
use Rattle.cycle_solver.specs.GameLists.{layers_for}
use Rattle.cycle_solver.proofs.SharedLaws.{layers_seen, view_inside, view_known}
use Rattle.cycle_solver.proofs.shared_games.RegionGames.steady_budget.Goals as goal

pub index-view-requires : goal.index-view-requires
index-view-requires c =
    let book = c.self.inside.book in
    omega (arith, view_known book c.args.number c.args.self.now c.self.view_is c.requires, book.views.ok)

pub index-game-requires : goal.index-game-requires
index-game-requires c =
    let book = c.self.inside.book in
    omega (arith, view_inside book c.args.number c.self.view_is c.requires c.self.invariant c.index-view.result.now c.index-view.ensures, book.games.ok)

pub returns : goal.returns
returns c =
    c.budget.ensures ∙ ap length (c.values_for.ensures ∙ ap (layers_for c.index-game.result.now) c.colour_after.ensures)
    ∙ sym (layers_seen c.self.inside.book c.args.number c.self.view_is c.requires c.self.invariant c.index-view.result.now c.index-game.result.now c.index-view.ensures c.index-game.ensures c.args.player)
