use Rattle.std.proofs.Common.{subst, sym, ap, ◌∙◌, arith}
use Rattle.engine_player.proofs.FitLemmas.{black_by_hand, white_by_hand}
use Rattle.engine_player.proofs.PreparedLemmas.{has_room, room_left}
use Rattle.engine_player.proofs.cycle_player.CyclePlayer.play.Goals as goal

pub move_by_hand-requires-clause-purses : goal.move_by_hand-requires-clause-purses
move_by_hand-requires-clause-purses c = has_room c.self.inside.game.state c.self.inside.moves c.self.invariant.purses (room_left _ c.args.self.now c.self.view_is c.requires.room)

pub move_by_hand-requires-in-White-clause-purses : goal.move_by_hand-requires-in-White-clause-purses
move_by_hand-requires-in-White-clause-purses c =
    has_room c.self.inside.game.state c.self.inside.moves c.self.invariant.purses (room_left _ c.args.self.now c.self.view_is c.requires.room)

pub invariant_of-self : goal.invariant_of-self
invariant_of-self c =
    let i = c.self.inside in let m = c.move_by_hand in
    black_by_hand i.game m.new.game i.black i.white i.scratch.items i.moves m.new.moves c.self.invariant c.args.chosen m.ensures.regions
    (room_left _ c.args.self.now c.self.view_is c.requires.room) m.result m.new.kept (sym (ap (λ s. s.side) c.whole.ensures) ∙ sym c.side.ensures ∙ c.in-Black.is)
    m.ensures.applied m.ensures.forgotten m.ensures.same

pub invariant_of-self-in-White : goal.invariant_of-self-in-White
invariant_of-self-in-White c =
    let i = c.self.inside in let m = c.move_by_hand-in-White in
    white_by_hand i.game m.new.game i.black i.white i.scratch.items i.moves m.new.moves c.self.invariant c.args.chosen m.ensures.regions
    (room_left _ c.args.self.now c.self.view_is c.requires.room) m.result m.new.kept (sym (ap (λ s. s.side) c.whole.ensures) ∙ sym c.side.ensures ∙ c.in-White.is)
    m.ensures.applied m.ensures.forgotten m.ensures.same
