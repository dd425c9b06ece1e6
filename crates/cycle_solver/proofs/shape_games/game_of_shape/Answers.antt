use Rattle.std.proofs.Common.{◌≡◌, ◌∙◌, ◌∷◌, List, [], ap, arith, get_or, length, refl, subst, sym}
use Rattle.std.proofs.lemmas.List.{append-nil, get_or_push, length_push}
use Rattle.std.proofs.lemmas.Result.{IfOk-from_err, err_from_is_err_and}
use Rattle.game_store.proofs.EntryLaws.{extends-same}
use Rattle.cycle_solver.specs.declared.shapes.Kind.{Kind}
use Rattle.cycle_solver.specs.inner.Shared.{HasShapeAt}
use Rattle.cycle_solver.proofs.SharedLaws.{with_kind}
use Rattle.cycle_solver.proofs.shape_games.game_of_shape.Goals as goal

pub returns-clause-kinds : goal.returns-clause-kinds
returns-clause-kinds g c =
    rw (c.in_ok-push.ensures.items, c.in_ok-push-2.ensures.items)
    (with_kind c.args.region.now c.args.kind c.in_ok-game.game c.region_game.ensures.kept c.requires.kinds c.requires.shape c.in_ok-game.ensures.solved)

pub returns-in_err-game-clause-kinds : goal.returns-in_err-game-clause-kinds
returns-in_err-game-clause-kinds g c =
    let p = err_from_is_err_and c.from_residual.result c.from_residual.ensures.1 in rw (p.1) tt

pub returns-in_err-game-clause-place : goal.returns-in_err-game-clause-place
returns-in_err-game-clause-place g c =
    IfOk-from_err c.from_residual.result (HasShapeAt _ c.args.kind.shape.spots.items) c.from_residual.ensures.0

pub returns-in_err-game-clause-games : goal.returns-in_err-game-clause-games
returns-in_err-game-clause-games g c =
    let p = err_from_is_err_and c.from_residual.result c.from_residual.ensures.1 in rw (p.1) tt

pub returns-in_err-game-clause-refusal : goal.returns-in_err-game-clause-refusal
returns-in_err-game-clause-refusal g c =
    let p = err_from_is_err_and c.from_residual.result c.from_residual.ensures.1 in rw (p.1, p.2) c.in_err-game.ensures.refusal

pub returns-in_err-game-clause-kept : goal.returns-in_err-game-clause-kept
returns-in_err-game-clause-kept g c = c.region_game.ensures.kept

pub returns-in_err-game-clause-steps : goal.returns-in_err-game-clause-steps
returns-in_err-game-clause-steps g c = c.region_game.ensures.steps

pub returns-in_err-push-clause-kinds : goal.returns-in_err-push-clause-kinds
returns-in_err-push-clause-kinds g c =
    let p = err_from_is_err_and c.from_residual-in_err-push.result c.from_residual-in_err-push.ensures.1 in rw (p.1) tt

pub returns-in_err-push-clause-place : goal.returns-in_err-push-clause-place
returns-in_err-push-clause-place g c =
    IfOk-from_err c.from_residual-in_err-push.result (HasShapeAt _ c.args.kind.shape.spots.items) c.from_residual-in_err-push.ensures.0

pub returns-in_err-push-clause-games : goal.returns-in_err-push-clause-games
returns-in_err-push-clause-games g c =
    let p = err_from_is_err_and c.from_residual-in_err-push.result c.from_residual-in_err-push.ensures.1 in rw (p.1) tt

pub returns-in_err-push-clause-refusal : goal.returns-in_err-push-clause-refusal
returns-in_err-push-clause-refusal g c =
    let p = err_from_is_err_and c.from_residual-in_err-push.result c.from_residual-in_err-push.ensures.1 in rw (p.1, p.2) tt

pub returns-in_err-push-clause-kept : goal.returns-in_err-push-clause-kept
returns-in_err-push-clause-kept g c = c.region_game.ensures.kept

pub returns-in_err-push-clause-steps : goal.returns-in_err-push-clause-steps
returns-in_err-push-clause-steps g c = c.region_game.ensures.steps

pub returns-in_err-push-2-clause-kinds : goal.returns-in_err-push-2-clause-kinds
returns-in_err-push-2-clause-kinds g c =
    let p = err_from_is_err_and c.from_residual-in_err-push-2.result c.from_residual-in_err-push-2.ensures.1 in rw (p.1) tt

pub returns-in_err-push-2-clause-place : goal.returns-in_err-push-2-clause-place
returns-in_err-push-2-clause-place g c =
    IfOk-from_err c.from_residual-in_err-push-2.result (HasShapeAt _ c.args.kind.shape.spots.items) c.from_residual-in_err-push-2.ensures.0

pub returns-in_err-push-2-clause-games : goal.returns-in_err-push-2-clause-games
returns-in_err-push-2-clause-games g c =
    let p = err_from_is_err_and c.from_residual-in_err-push-2.result c.from_residual-in_err-push-2.ensures.1 in rw (p.1) tt

pub returns-in_err-push-2-clause-refusal : goal.returns-in_err-push-2-clause-refusal
returns-in_err-push-2-clause-refusal g c =
    let p = err_from_is_err_and c.from_residual-in_err-push-2.result c.from_residual-in_err-push-2.ensures.1 in rw (p.1, p.2) tt

pub returns-in_err-push-2-clause-kept : goal.returns-in_err-push-2-clause-kept
returns-in_err-push-2-clause-kept g c = c.region_game.ensures.kept

pub returns-in_err-push-2-clause-steps : goal.returns-in_err-push-2-clause-steps
returns-in_err-push-2-clause-steps g c = c.region_game.ensures.steps

pub region_game-requires : goal.region_game-requires
region_game-requires g c = record { points = c.requires.points }

pub returns-in-Some-clause-kinds : goal.returns-in-Some-clause-kinds
returns-in-Some-clause-kinds g c = c.requires.kinds

pub returns-in-Some-clause-place : goal.returns-in-Some-clause-place
returns-in-Some-clause-place g c = subst (λ ks. HasShapeAt ks c.args.kind.shape.spots.items c.in-Some.place) c.deref.ensures.value (c.in-Some.ensures {u = tt})

pub returns-in-Some-clause-games : goal.returns-in-Some-clause-games
returns-in-Some-clause-games g c = ([], sym (append-nil c.args.games.now.items))

pub returns-in-Some-clause-refusal : goal.returns-in-Some-clause-refusal
returns-in-Some-clause-refusal g c = tt

pub returns-in-Some-clause-kept : goal.returns-in-Some-clause-kept
returns-in-Some-clause-kept g c = extends-same c.args.store.now c.args.store.now refl

pub returns-clause-games : goal.returns-clause-games
returns-clause-games g c = (c.in_ok-game.game ∷ [], c.in_ok-push.ensures.items)

pub returns-clause-refusal : goal.returns-clause-refusal
returns-clause-refusal g c = tt

pub returns-clause-kept : goal.returns-clause-kept
returns-clause-kept g c = c.region_game.ensures.kept

pub returns-clause-steps : goal.returns-clause-steps
returns-clause-steps g c = c.region_game.ensures.steps

pub returns-clause-place : goal.returns-clause-place
returns-clause-place g c =
    let kinds = c.args.kinds.now.items in
    let place = c.len-place.result in
    let items = c.in_ok-push-2.ensures.items in
    let last : length kinds ≡ place = omega (arith, c.len-place.ensures, c.requires.kinds.many, c.args.games.now.ok) in (
      omega (arith, last, ap (λ (z : List Kind). length z) items, length_push kinds c.args.kind),
      λ k is. ap (λ z. z.shape.spots.items) (sym is ∙ ap (λ ks. get_or ks place k) items ∙ get_or_push kinds c.args.kind k place last),
    )
