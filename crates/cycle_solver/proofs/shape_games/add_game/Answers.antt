use Rattle.std.proofs.Common.{◌+◌, ◌^◌, ◌≤◌, arith, length, min, refl, subst, sym}
use Rattle.std.proofs.lemmas.Result.{err_from_is_err_and}
use Rattle.std.proofs.lemmas.List.{get_or_read}
use Rattle.go_grid.specs.Region.{Region}
use Rattle.game_store.proofs.EntryLaws.{extends-same}
use Rattle.game_canon.proofs.ChangedIdLaws.{extends-on}
use Rattle.endgame_solver.specs.Regions.{no_region}
use Rattle.endgame_solver.proofs.SharingLaws.{negatives_later}
use Rattle.cycle_solver.specs.declared.book.Book.{Book}
use Rattle.cycle_solver.specs.GameLists.{game_at}
use Rattle.cycle_solver.specs.Games.{IsRefusalOf, IsSolvedBy}
use Rattle.cycle_solver.specs.Turned.{own_game}
use Rattle.cycle_solver.proofs.NoteLaws.{keeps-all}
use Rattle.cycle_solver.proofs.SharedLaws.{ids_of_kind, notes_later, partner_for, seen_solved, shared_next}
use Rattle.cycle_solver.proofs.shape_games.add_game.Goals as goal

pub add_view-requires-clause-ids : goal.add_view-requires-clause-ids
add_view-requires-clause-ids g c =
    let p = c.in_ok-place.ensures in
    ids_of_kind c.in_ok-place.place c.index.result.now p.kinds p.place (sym c.index.ensures) c.in_ok-kind.ensures

pub add_view-requires-clause-some : goal.add_view-requires-clause-some
add_view-requires-clause-some g c =
    let p = c.in_ok-place.ensures in
    partner_for c.in_ok-place.place c.index.result.now p.kinds p.place (sym c.index.ensures) c.in_ok-kind.ensures

pub add_view-requires-clause-right : goal.add_view-requires-clause-right
add_view-requires-clause-right g c =
    let book = c.args.book.now in
    let s = c.requires.shares.noted in
    let p = c.in_ok-place.ensures in
    let kept = c.game_of_shape.ensures.kept in
    notes_later book _ c.args.store.now c.game_of_shape.new.store s refl p.games.0 p.games.1 (keeps-all book.negatives.items)
    (negatives_later c.args.store.now c.game_of_shape.new.store book.negatives.items kept s.right)

pub returns-clause-shares : goal.returns-clause-shares
returns-clause-shares g c =
    let book = c.args.book.now in
    let middle : Book = record { games = c.game_of_shape.new.games; views = book.views; negatives = book.negatives } in
    let after = c.add_view.new.book in
    let p = c.in_ok-place.ensures in
    let w = c.in_ok-add_view.ensures in
    let (v, viewed, see, noted) = w.view in
    let kept = c.add_view.ensures.kept in
    let j = c.in_ok-place.place in
    let r = c.index-regions-number.result in
    let at = get_or_read c.args.regions.now c.args.number r c.requires.number c.index-regions-number.is no_region in
    let few = subst (λ (z : Region). length z.points ≤ 32) (sym at) c.requires.points in
    let here = seen_solved j c.index.result.now p.kinds p.place (sym c.index.ensures) c.in_ok-kind.ensures after.negatives.items few see w.forms kept w.right.right noted in
    let solved = subst (λ i. IsSolvedBy c.args.limits.now c.args.most r c.add_view.new.store (own_game after.negatives.items v (game_at middle.games.items i))) (sym see.game) here in
    shared_next book middle after v c.requires.shares c.game_of_shape.ensures.kept p.kinds p.games.0 p.games.1 refl refl w.games viewed w.keeps w.right kept
    (subst (λ z. IsSolvedBy c.args.limits.now c.args.most z c.add_view.new.store (own_game after.negatives.items v (game_at middle.games.items v.game))) at solved)

pub returns-in_err-kind-clause-shares : goal.returns-in_err-kind-clause-shares
returns-in_err-kind-clause-shares g c =
    let p = err_from_is_err_and c.from_residual.result c.from_residual.ensures.1 in rw (p.1) tt

pub returns-in_err-place-clause-shares : goal.returns-in_err-place-clause-shares
returns-in_err-place-clause-shares g c =
    let p = err_from_is_err_and c.from_residual-in_err-place.result c.from_residual-in_err-place.ensures.1 in rw (p.1) tt

pub returns-in_err-add_view-clause-shares : goal.returns-in_err-add_view-clause-shares
returns-in_err-add_view-clause-shares g c =
    let p = err_from_is_err_and c.from_residual-in_err-add_view.result c.from_residual-in_err-add_view.ensures.1 in rw (p.1) tt

pub returns-in_err-place-clause-refusal : goal.returns-in_err-place-clause-refusal
returns-in_err-place-clause-refusal g c =
    let p = err_from_is_err_and c.from_residual-in_err-place.result c.from_residual-in_err-place.ensures.1 in
    rw (p.1, p.2) (subst (λ r. IsRefusalOf c.args.limits.now c.args.most r c.in_err-place.field-0.0) (get_or_read c.args.regions.now c.args.number c.index-regions-number.result c.requires.number c.index-regions-number.is no_region) c.in_err-place.ensures.refusal)

pub returns-in_err-kind-clause-refusal : goal.returns-in_err-kind-clause-refusal
returns-in_err-kind-clause-refusal g c =
    let p = err_from_is_err_and c.from_residual.result c.from_residual.ensures.1 in rw (p.1, p.2) tt

pub returns-in_err-add_view-clause-refusal : goal.returns-in_err-add_view-clause-refusal
returns-in_err-add_view-clause-refusal g c =
    let p = err_from_is_err_and c.from_residual-in_err-add_view.result c.from_residual-in_err-add_view.ensures.1 in rw (p.1, p.2) tt

pub returns-in_err-place-clause-kept : goal.returns-in_err-place-clause-kept
returns-in_err-place-clause-kept g c = c.game_of_shape.ensures.kept

pub returns-in_err-add_view-clause-kept : goal.returns-in_err-add_view-clause-kept
returns-in_err-add_view-clause-kept g c = extends-on c.args.store.now c.game_of_shape.new.store c.add_view.new.store c.game_of_shape.ensures.kept c.add_view.ensures.kept

pub returns-clause-kept : goal.returns-clause-kept
returns-clause-kept g c = extends-on c.args.store.now c.game_of_shape.new.store c.add_view.new.store c.game_of_shape.ensures.kept c.add_view.ensures.kept

pub returns-clause-refusal : goal.returns-clause-refusal
returns-clause-refusal g c = tt

pub game_of_shape-requires-clause-points : goal.game_of_shape-requires-clause-points
game_of_shape-requires-clause-points g c =
    subst (λ (z : Region). length z.points ≤ 32) (sym (get_or_read c.args.regions.now c.args.number c.index-regions-number.result c.requires.number c.index-regions-number.is no_region)) c.requires.points

pub game_of_shape-requires-clause-shape : goal.game_of_shape-requires-clause-shape
game_of_shape-requires-clause-shape g c = c.in_ok-kind.ensures

pub game_of_shape-requires-clause-kinds : goal.game_of_shape-requires-clause-kinds
game_of_shape-requires-clause-kinds g c = c.requires.shares.kinds_are

pub returns-in_err-place-clause-steps : goal.returns-in_err-place-clause-steps
returns-in_err-place-clause-steps g c =
    subst (λ (z : Region). c.game_of_shape.new.steps ≤ c.args.steps.now + min c.args.limits.now.positions (3 ^ length z.points))
    (get_or_read c.args.regions.now c.args.number c.index-regions-number.result c.requires.number c.index-regions-number.is no_region) c.game_of_shape.ensures.steps

pub returns-in_err-add_view-clause-steps : goal.returns-in_err-add_view-clause-steps
returns-in_err-add_view-clause-steps g c =
    subst (λ (z : Region). c.game_of_shape.new.steps ≤ c.args.steps.now + min c.args.limits.now.positions (3 ^ length z.points))
    (get_or_read c.args.regions.now c.args.number c.index-regions-number.result c.requires.number c.index-regions-number.is no_region) c.game_of_shape.ensures.steps

pub returns-clause-steps : goal.returns-clause-steps
returns-clause-steps g c =
    subst (λ (z : Region). c.game_of_shape.new.steps ≤ c.args.steps.now + min c.args.limits.now.positions (3 ^ length z.points))
    (get_or_read c.args.regions.now c.args.number c.index-regions-number.result c.requires.number c.index-regions-number.is no_region) c.game_of_shape.ensures.steps

pub returns-in_err-kind-clause-kept : goal.returns-in_err-kind-clause-kept
returns-in_err-kind-clause-kept g c = extends-same c.args.store.now c.args.store.now refl

pub add_view-requires-clause-few : goal.add_view-requires-clause-few
add_view-requires-clause-few g c =
    subst (λ (z : Region). length z.points ≤ 32) (sym (get_or_read c.args.regions.now c.args.number c.index-regions-number.result c.requires.number c.index-regions-number.is no_region)) c.requires.points

pub add_view-requires-clause-known : goal.add_view-requires-clause-known
add_view-requires-clause-known g c = omega (arith, c.in_ok-place.ensures.place.0, c.in_ok-place.ensures.kinds.many)
