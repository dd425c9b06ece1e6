use Rattle.std.proofs.Common.{ℕ, ◌≡◌, ◌<◌, ap, arith, get_or, length, refl, subst, sym, IsTrue}
use Rattle.std.proofs.lemmas.Result.{err_from_is_err_and}
use Rattle.go_grid.specs.declared.grid.Colour.{Colour}
use Rattle.cycle_solver.specs.declared.views.View.{View}
use Rattle.cycle_solver.specs.GameLists.{game_at, layers_for}
use Rattle.cycle_solver.specs.inner.Shared.{AreNoted}
use Rattle.cycle_solver.proofs.SharedLaws.{notes_with_view}
use Rattle.cycle_solver.proofs.book.add_view.Goals as goal

pub pairing-places-requires-clause-some : goal.pairing-places-requires-clause-some
pairing-places-requires-clause-some c =
    let same : c.len.result ≡ length c.args.region.now.points =
    omega (arith, c.len.ensures, ap (λ s. length s.points) c.region.view_is, c.region.inside.points.ok.0) in
    subst (λ n. (j : ℕ) → j < n → (x : ℕ) × (x < n) × (get_or c.args.turn.now.places x 0 ≡ get_or c.args.first.now.places j 0)) (sym same) c.requires.some

pub returns-clause-right : goal.returns-clause-right
returns-clause-right c =
    let n = c.in_ok-note_exchanged.ensures in
    let book = c.note_exchanged.new.book in
    let v : View = record { game = c.args.place; places = c.pairing-places.result; colours = c.differ-colours.result } in
    notes_with_view book _ c.note_exchanged.new.store v n.right c.in_ok-push.ensures.items refl refl
    (subst (λ g. c.args.place < length g.items) (sym n.games) c.requires.known)
    (subst (λ g. IsTrue v.colours → (d : Colour) → AreNoted book.negatives.items (layers_for (game_at g.items c.args.place) d)) (sym n.games) n.noted)

pub returns-in_err-note_exchanged-clause-view : goal.returns-in_err-note_exchanged-clause-view
returns-in_err-note_exchanged-clause-view c =
    let p = err_from_is_err_and c.from_residual.result c.from_residual.ensures.1 in rw (p.1) tt

pub returns-in_err-note_exchanged-clause-keeps : goal.returns-in_err-note_exchanged-clause-keeps
returns-in_err-note_exchanged-clause-keeps c =
    let p = err_from_is_err_and c.from_residual.result c.from_residual.ensures.1 in rw (p.1) tt

pub returns-in_err-note_exchanged-clause-right : goal.returns-in_err-note_exchanged-clause-right
returns-in_err-note_exchanged-clause-right c =
    let p = err_from_is_err_and c.from_residual.result c.from_residual.ensures.1 in rw (p.1) tt

pub returns-in_err-note_exchanged-clause-games : goal.returns-in_err-note_exchanged-clause-games
returns-in_err-note_exchanged-clause-games c =
    let p = err_from_is_err_and c.from_residual.result c.from_residual.ensures.1 in rw (p.1) tt

pub returns-in_err-note_exchanged-clause-forms : goal.returns-in_err-note_exchanged-clause-forms
returns-in_err-note_exchanged-clause-forms c =
    let p = err_from_is_err_and c.from_residual.result c.from_residual.ensures.1 in rw (p.1) tt

pub returns-in_err-note_exchanged-clause-kept : goal.returns-in_err-note_exchanged-clause-kept
returns-in_err-note_exchanged-clause-kept c = c.note_exchanged.ensures.kept

pub returns-in_err-push-clause-view : goal.returns-in_err-push-clause-view
returns-in_err-push-clause-view c =
    let p = err_from_is_err_and c.from_residual-in_err-push.result c.from_residual-in_err-push.ensures.1 in rw (p.1) tt

pub returns-in_err-push-clause-keeps : goal.returns-in_err-push-clause-keeps
returns-in_err-push-clause-keeps c =
    let p = err_from_is_err_and c.from_residual-in_err-push.result c.from_residual-in_err-push.ensures.1 in rw (p.1) tt

pub returns-in_err-push-clause-right : goal.returns-in_err-push-clause-right
returns-in_err-push-clause-right c =
    let p = err_from_is_err_and c.from_residual-in_err-push.result c.from_residual-in_err-push.ensures.1 in rw (p.1) tt

pub returns-in_err-push-clause-games : goal.returns-in_err-push-clause-games
returns-in_err-push-clause-games c =
    let p = err_from_is_err_and c.from_residual-in_err-push.result c.from_residual-in_err-push.ensures.1 in rw (p.1) tt

pub returns-in_err-push-clause-forms : goal.returns-in_err-push-clause-forms
returns-in_err-push-clause-forms c =
    let p = err_from_is_err_and c.from_residual-in_err-push.result c.from_residual-in_err-push.ensures.1 in rw (p.1) tt

pub returns-in_err-push-clause-kept : goal.returns-in_err-push-clause-kept
returns-in_err-push-clause-kept c = c.note_exchanged.ensures.kept

pub returns-clause-keeps : goal.returns-clause-keeps
returns-clause-keeps c = c.in_ok-note_exchanged.ensures.keeps

pub returns-clause-kept : goal.returns-clause-kept
returns-clause-kept c = c.note_exchanged.ensures.kept

pub returns-clause-games : goal.returns-clause-games
returns-clause-games c = ap (λ g. g.items) c.note_exchanged.ensures.games

pub note_exchanged-requires-clause-known : goal.note_exchanged-requires-clause-known
note_exchanged-requires-clause-known c = c.requires.known

pub note_exchanged-requires-clause-ids : goal.note_exchanged-requires-clause-ids
note_exchanged-requires-clause-ids c = c.requires.ids

pub note_exchanged-requires-clause-right : goal.note_exchanged-requires-clause-right
note_exchanged-requires-clause-right c = c.requires.right
