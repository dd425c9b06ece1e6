use Rattle.std.proofs.Common.{ℕ, ◌≡◌, ◌<◌, ◌∙◌, List, ap, arith, get_or, length, map, sym}
use Rattle.std.proofs.lemmas.List.{get_or-map, length-map}
use Rattle.local_value.specs.BudgetValues.{layer_with}
use Rattle.cycle_solver.specs.GameLists.{game_at, layers_for}
use Rattle.cycle_solver.specs.Held.{ids_with}
use Rattle.cycle_solver.specs.Turned.{id_after}
use Rattle.cycle_solver.proofs.SharedLaws.{ids_seen, view_inside, view_known}
use Rattle.cycle_solver.proofs.shared_games.RegionGames.value_with.Goals as goal

pub index-view-requires : goal.index-view-requires
index-view-requires c =
    let book = c.self.inside.book in
    omega (arith, view_known book c.args.number c.args.self.now c.self.view_is c.requires.number, book.views.ok)

pub index-game-requires : goal.index-game-requires
index-game-requires c =
    let book = c.self.inside.book in
    omega (arith, view_inside book c.args.number c.self.view_is c.requires.number c.self.invariant c.index-view.result.now c.index-view.ensures, book.games.ok)

pub bounds-as_slice-place : goal.bounds-as_slice-place
bounds-as_slice-place c =
    let book = c.self.inside.book in
    let v = c.index-view.result.now in
    let ids = c.as_slice.result.now in
    let here = c.as_slice.ensures ∙ c.with.ensures
    ∙ ap (λ layers. layer_with layers c.args.budget) (c.values_for-values.ensures ∙ ap (layers_for c.index-game.result.now) c.colour_after.ensures) in
    let all = ids_seen book c.args.number c.self.view_is c.requires.number c.self.invariant v c.index-game.result.now c.index-view.ensures c.index-game.ensures
    c.args.player c.args.budget ids here in
    omega (arith, c.requires.place, ap (λ (z : List ℕ). length z) all, length-map ids (id_after v.colours book.negatives.items))

pub returns : goal.returns
returns c =
    let book = c.self.inside.book in
    let v = c.index-view.result.now in
    let ids = c.as_slice.result.now in
    let own = id_after v.colours book.negatives.items in
    let here = c.as_slice.ensures ∙ c.with.ensures
    ∙ ap (λ layers. layer_with layers c.args.budget) (c.values_for-values.ensures ∙ ap (layers_for c.index-game.result.now) c.colour_after.ensures) in
    let all : ids_with (game_at c.args.self.now c.args.number) c.args.player c.args.budget ≡ map own ids =
    ids_seen book c.args.number c.self.view_is c.requires.number c.self.invariant v c.index-game.result.now c.index-view.ensures c.index-game.ensures
    c.args.player c.args.budget ids here in
    let short : c.args.place < length ids = omega (arith, c.requires.place, ap (λ (z : List ℕ). length z) all, length-map ids own) in
    c.id_after.ensures ∙ ap (id_after v.colours c.deref.result.now) c.from.ensures
    ∙ ap (λ known. id_after v.colours known (get_or ids c.args.place 0)) c.deref.ensures.value
    ∙ sym (get_or-map own ids c.args.place 0 0 short) ∙ sym (ap (λ (z : List ℕ). get_or z c.args.place 0) all)
