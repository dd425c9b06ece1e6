use Rattle.game_text.proofs.ReadingPlaceLaws.{game-bad_number, game-number, game-number_past}
use Rattle.game_text.proofs.ReadingExitLaws.{at-none, at-some}
use Rattle.game_text.proofs.reading.read_number.Goals as goal

pub returns-in_default-clause-refusal : goal.returns-in_default-clause-refusal
returns-in_default-clause-refusal c = game-bad_number c.args.store.now c.args.source.now.parts_limit c.args.source.now.text.now c.args.at c.args.pending.now.options.items c.args.pending.now.opens.items c.requires.here c.run_end-end.result c.requires.reading c.run_end-end.ensures c.requires.byte (at-none c.in_ok-x.field-0 _ _ c.in_default.is c.in_ok-x.ensures)

pub returns-clause-next : goal.returns-clause-next
returns-clause-next c = (
  game-number c.args.store.now c.args.source.now.parts_limit c.args.source.now.text.now c.args.at c.args.pending.now.options.items c.args.pending.now.opens.items c.requires.here c.number.new.self c.run_end-end.result c.in-Some.x c.in_ok-id.id c.take_game.new.pending.options.items c.take_game.new.pending.opens.items c.in_ok-place.place c.requires.reading c.run_end-end.ensures c.requires.byte
      (at-some c.in_ok-x.field-0 c.in-Some.x _ _ c.in-Some.is c.in_ok-x.ensures) c.number.ensures.kept c.in_ok-id.ensures.value c.in_ok-place.ensures.options c.in_ok-place.ensures.opens c.in_ok-place.ensures.place,
  game-number_past c.args.store.now c.args.source.now.parts_limit c.args.source.now.text.now c.args.at c.args.pending.now.options.items c.args.pending.now.opens.items c.requires.here c.run_end-end.result c.run_end-end.ensures c.requires.byte,
)

pub returns-clause-kept : goal.returns-clause-kept
returns-clause-kept c = c.number.ensures.kept

pub returns-in_err-place-clause-kept : goal.returns-in_err-place-clause-kept
returns-in_err-place-clause-kept c = c.number.ensures.kept

pub returns-in_err-id-clause-kept : goal.returns-in_err-id-clause-kept
returns-in_err-id-clause-kept c = c.number.ensures.kept
