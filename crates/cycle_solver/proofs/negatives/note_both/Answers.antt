use Rattle.std.proofs.Common.{None, Some, subst}
use Rattle.go_grid.specs.declared.grid.Colour.TheVariants.{Black, White}
use Rattle.cycle_solver.specs.inner.Shared.{AreLayersOfIds, HaveRoom}
use Rattle.cycle_solver.proofs.NoteLaws.{all_noted-on, both_noted, ids_on, room_on, white_is}
use Rattle.cycle_solver.proofs.negatives.note_both.Goals as goal

pub note_values-requires-clause-ids : goal.note_values-requires-clause-ids
note_values-requires-clause-ids c = c.requires.ids Black

pub note_values-requires-clause-room : goal.note_values-requires-clause-room
note_values-requires-clause-room c = c.requires.room Black

pub note_values-requires-in-Some-clause-ids : goal.note_values-requires-in-Some-clause-ids
note_values-requires-in-Some-clause-ids c =
    let game = c.args.game.now in
    ids_on c.args.store.now c.note_values.new.store c.in-Some.white c.note_values.ensures.kept
    (subst (AreLayersOfIds c.args.store.now) (white_is game (Some c.in-Some.white) c.in-Some.is) (c.requires.ids White))

pub note_values-requires-in-Some-clause-room : goal.note_values-requires-in-Some-clause-room
note_values-requires-in-Some-clause-room c =
    let game = c.args.game.now in
    room_on c.args.known.now c.note_values.new.known c.in-Some.white c.note_values.ensures.long
    (subst (HaveRoom c.args.known.now) (white_is game (Some c.in-Some.white) c.in-Some.is) (c.requires.room White))

pub returns-in_ok-note_values-in-Some-clause-noted : goal.returns-in_ok-note_values-in-Some-clause-noted
returns-in_ok-note_values-in-Some-clause-noted c =
    let game = c.args.game.now in
    let last = c.in_ok-note_values-in-Some.ensures in
    both_noted c.note_values-in-Some.new.known game (Some c.in-Some.white) c.in-Some.is
    (all_noted-on c.note_values.new.known c.note_values-in-Some.new.known game.black last.keeps c.in_ok-note_values.ensures.noted) last.noted

pub returns-in-None-clause-noted : goal.returns-in-None-clause-noted
returns-in-None-clause-noted c =
    let noted = c.in_ok-note_values.ensures.noted in
    both_noted c.note_values.new.known c.args.game.now None c.in-None.is noted noted
