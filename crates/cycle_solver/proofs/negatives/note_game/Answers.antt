use Rattle.std.proofs.Common.{◌≤◌, ◌∙◌, None, ap, arith, get_or, length, subst, sym}
use Rattle.go_grid.specs.declared.grid.Colour.{Colour}
use Rattle.endgame_solver.specs.inner.Sharing.{AreNegatives}
use Rattle.endgame_solver.proofs.SharingLaws.{lent_back}
use Rattle.cycle_solver.specs.GameLists.{layers_for}
use Rattle.cycle_solver.specs.inner.Shared.{AreNoted, KeepsNotes}
use Rattle.cycle_solver.proofs.NoteLaws.{room_for, room_keeps, room_negatives}
use Rattle.cycle_solver.proofs.negatives.note_game.Goals as goal

pub note_both-requires-clause-right : goal.note_both-requires-clause-right
note_both-requires-clause-right c =
    subst (AreNegatives c.args.store.now) (sym c.deref_mut.ensures.value)
    (room_negatives c.args.store.now c.args.known.now.items c.make_room.new.known.items c.in_ok-make_room.ensures.same c.requires.right)

pub note_both-requires-clause-room : goal.note_both-requires-clause-room
note_both-requires-clause-room c =
    let room : length c.args.store.now ≤ length c.deref_mut.result.now =
    omega (arith, c.in_ok-make_room.ensures.room, c.len.ensures.count, ap length c.deref_mut.ensures.value) in
    λ d. room_for c.args.store.now c.deref_mut.result.now (layers_for c.args.game.now d) room (c.requires.ids d)

pub returns-clause-noted : goal.returns-clause-noted
returns-clause-noted c =
    let n = c.in_ok-note_both.ensures in
    let before = c.make_room.new.known in
    let long = n.long ∙ ap length c.deref_mut.ensures.value in
    subst (λ ks. (d : Colour) → AreNoted ks (layers_for c.args.game.now d)) (sym (lent_back before.len c.note_both.new.known before.items long before.ok.0)) n.noted

pub returns-clause-keeps : goal.returns-clause-keeps
returns-clause-keeps c =
    let n = c.in_ok-note_both.ensures in
    let before = c.make_room.new.known in
    let long = n.long ∙ ap length c.deref_mut.ensures.value in
    subst (KeepsNotes c.args.known.now.items) (sym (lent_back before.len c.note_both.new.known before.items long before.ok.0))
    (room_keeps c.args.known.now.items c.deref_mut.result.now c.note_both.new.known
    (λ i. ap (λ ks. get_or ks i None) c.deref_mut.ensures.value ∙ c.in_ok-make_room.ensures.same i) n.keeps)

pub returns-clause-right : goal.returns-clause-right
returns-clause-right c =
    let n = c.in_ok-note_both.ensures in
    let before = c.make_room.new.known in
    let long = n.long ∙ ap length c.deref_mut.ensures.value in
    subst (AreNegatives c.note_both.new.store) (sym (lent_back before.len c.note_both.new.known before.items long before.ok.0)) n.right
