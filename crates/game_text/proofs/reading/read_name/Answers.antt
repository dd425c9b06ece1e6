use Rattle.game_text.proofs.WantLaws.{want-read}
use Rattle.std.proofs.Common.{arith}
use Rattle.std.specs.Prelude.{slice_index}
use Rattle.std.proofs.lemmas.Result.{err_from_is_err_and}
use Rattle.game_text.specs.Reading.{ReadsName, IsReadRefusal}
use Rattle.game_text.proofs.ReadingExitLaws.{read-passed_on}
use Rattle.game_text.proofs.ReadingPlaceLaws.{game-name, game-name_refused}
use Rattle.game_text.proofs.reading.read_name.Goals as goal

pub returns-in_err-found-clause-refusal : goal.returns-in_err-found-clause-refusal
returns-in_err-found-clause-refusal c = read-passed_on c.from_residual.result _ (IsReadRefusal c.args.source.now.parts_limit c.args.source.now.text.now) (err_from_is_err_and c.from_residual.result c.from_residual.ensures.1)
    (game-name_refused c.args.store.now c.args.source.now.parts_limit c.args.source.now.text.now c.args.at c.args.pending.now.options.items c.args.pending.now.opens.items c.requires.here (ReadsName (slice_index c.args.source.now.text.now c.args.at)) (λ o r. r) c.requires.reading _ c.in_err-found.ensures.refusal)

pub returns-clause-next : goal.returns-clause-next
returns-clause-next c =
    let f = c.in_ok-found.ensures.found in (
      game-name c.args.store.now c.args.source.now.parts_limit c.args.source.now.text.now c.args.at c.args.pending.now.options.items c.args.pending.now.opens.items c.requires.here c.named_game.new.store c.in_ok-found.found.end c.in_ok-found.found.id f.0 c.take_game.new.pending.options.items c.take_game.new.pending.opens.items c.in_ok-place.place c.requires.reading f.1 f.2 f.4 c.named_game.ensures.kept c.in_ok-place.ensures.options c.in_ok-place.ensures.opens c.in_ok-place.ensures.place,
      omega (arith, f.3),
    )

pub returns-clause-kept : goal.returns-clause-kept
returns-clause-kept c = c.named_game.ensures.kept

pub returns-in_err-place-clause-kept : goal.returns-in_err-place-clause-kept
returns-in_err-place-clause-kept c = c.named_game.ensures.kept

pub returns-in_err-found-clause-kept : goal.returns-in_err-found-clause-kept
returns-in_err-found-clause-kept c = c.named_game.ensures.kept

pub returns-in_err-place-clause-refusal : goal.returns-in_err-place-clause-refusal
returns-in_err-place-clause-refusal c = read-passed_on c.from_residual-in_err-place.result _ (IsReadRefusal c.args.source.now.parts_limit c.args.source.now.text.now) (err_from_is_err_and c.from_residual-in_err-place.result c.from_residual-in_err-place.ensures.1) (want-read c.args.source.now.parts_limit c.args.source.now.text.now _ c.in_err-place.ensures.refusal)
