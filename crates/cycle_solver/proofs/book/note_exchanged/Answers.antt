use Rattle.std.proofs.Common.{◌∙◌, [], Contains, refl, subst, sym}
use Rattle.std.proofs.lemmas.Result.{err_from_is_err_and}
use Rattle.std.proofs.lemmas.List.{append-nil, get_or_default}
use Rattle.game_store.proofs.EntryLaws.{extends-same}
use Rattle.cycle_solver.specs.GameLists.{game_at, layers_for, no_game}
use Rattle.cycle_solver.specs.inner.Shared.{AreLayersOfIds, AreNoted}
use Rattle.cycle_solver.proofs.NoteLaws.{keeps-all}
use Rattle.cycle_solver.proofs.SharedLaws.{notes_later}
use Rattle.cycle_solver.proofs.book.note_exchanged.Goals as goal

pub returns-then-is_exchanged-clause-noted : goal.returns-then-is_exchanged-clause-noted
returns-then-is_exchanged-clause-noted c = λ _ d.
    let book = c.args.book.now in
    let (v, among, is, exchanged) = c.is_exchanged.ensures c.if-is_exchanged.true in
    subst (λ j. AreNoted book.negatives.items (layers_for (game_at book.games.items j) d)) is
    (c.requires.right.noted v (subst (λ vs. Contains vs v) c.deref.ensures.value among) exchanged d)

pub note_game-requires-clause-ids : goal.note_game-requires-clause-ids
note_game-requires-clause-ids c = λ d.
    let book = c.args.book.now in
    let same = get_or_default book.games.items c.args.place no_game c.index.result.now c.requires.known ∙ sym c.index.ensures in
    subst (λ game. AreLayersOfIds c.args.store.now (layers_for game d)) same (c.requires.ids d)

pub returns-clause-noted : goal.returns-clause-noted
returns-clause-noted c = λ _ d.
    let book = c.args.book.now in
    let same = get_or_default book.games.items c.args.place no_game c.index.result.now c.requires.known ∙ sym c.index.ensures in
    subst (λ game. AreNoted c.note_game.new.known.items (layers_for game d)) (sym same) (c.in_ok-note_game.ensures.noted d)

pub returns-clause-right : goal.returns-clause-right
returns-clause-right c =
    let n = c.in_ok-note_game.ensures in
    notes_later c.args.book.now _ c.args.store.now c.note_game.new.store c.requires.right refl [] (sym (append-nil c.args.book.now.games.items)) n.keeps n.right

pub returns-then-not-colours-clause-keeps : goal.returns-then-not-colours-clause-keeps
returns-then-not-colours-clause-keeps c = keeps-all c.args.book.now.negatives.items

pub returns-then-not-colours-clause-right : goal.returns-then-not-colours-clause-right
returns-then-not-colours-clause-right c = c.requires.right

pub returns-then-not-colours-clause-games : goal.returns-then-not-colours-clause-games
returns-then-not-colours-clause-games c = refl

pub returns-then-not-colours-clause-views : goal.returns-then-not-colours-clause-views
returns-then-not-colours-clause-views c = refl

pub returns-then-not-colours-clause-kept : goal.returns-then-not-colours-clause-kept
returns-then-not-colours-clause-kept c = extends-same c.args.store.now c.args.store.now refl

pub returns-then-is_exchanged-clause-keeps : goal.returns-then-is_exchanged-clause-keeps
returns-then-is_exchanged-clause-keeps c = keeps-all c.args.book.now.negatives.items

pub returns-then-is_exchanged-clause-right : goal.returns-then-is_exchanged-clause-right
returns-then-is_exchanged-clause-right c = c.requires.right

pub returns-then-is_exchanged-clause-games : goal.returns-then-is_exchanged-clause-games
returns-then-is_exchanged-clause-games c = refl

pub returns-then-is_exchanged-clause-views : goal.returns-then-is_exchanged-clause-views
returns-then-is_exchanged-clause-views c = refl

pub returns-then-is_exchanged-clause-kept : goal.returns-then-is_exchanged-clause-kept
returns-then-is_exchanged-clause-kept c = extends-same c.args.store.now c.args.store.now refl

pub returns-in_err-note_game-clause-noted : goal.returns-in_err-note_game-clause-noted
returns-in_err-note_game-clause-noted c =
    let p = err_from_is_err_and c.from_residual.result c.from_residual.ensures.1 in rw (p.1) tt

pub returns-in_err-note_game-clause-keeps : goal.returns-in_err-note_game-clause-keeps
returns-in_err-note_game-clause-keeps c =
    let p = err_from_is_err_and c.from_residual.result c.from_residual.ensures.1 in rw (p.1) tt

pub returns-in_err-note_game-clause-right : goal.returns-in_err-note_game-clause-right
returns-in_err-note_game-clause-right c =
    let p = err_from_is_err_and c.from_residual.result c.from_residual.ensures.1 in rw (p.1) tt

pub returns-in_err-note_game-clause-games : goal.returns-in_err-note_game-clause-games
returns-in_err-note_game-clause-games c = refl

pub returns-in_err-note_game-clause-views : goal.returns-in_err-note_game-clause-views
returns-in_err-note_game-clause-views c = refl

pub returns-in_err-note_game-clause-kept : goal.returns-in_err-note_game-clause-kept
returns-in_err-note_game-clause-kept c = c.note_game.ensures.kept

pub returns-clause-games : goal.returns-clause-games
returns-clause-games c = refl

pub returns-clause-views : goal.returns-clause-views
returns-clause-views c = refl

pub returns-clause-kept : goal.returns-clause-kept
returns-clause-kept c = c.note_game.ensures.kept

pub returns-clause-keeps : goal.returns-clause-keeps
returns-clause-keeps c = c.in_ok-note_game.ensures.keeps
