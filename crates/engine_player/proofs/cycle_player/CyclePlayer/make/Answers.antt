use Rattle.std.proofs.Common.{ap, arith, subst, sym, ◌∙◌, refl}
use Rattle.whole_budgets.specs.EnginePlay.{Serves}
use Rattle.whole_budgets.proofs.ServeLemmas.{serves_after}
use Rattle.engine_player.specs.inner.Kept.{IsFitPlayer, kept_of}
use Rattle.engine_player.proofs.EngineGameLaws.{engine_moves_moved}
use Rattle.engine_player.proofs.FitLemmas.{black_behind, white_behind, written_back}
use Rattle.engine_player.proofs.PreparedLemmas.{has_room, room_left}
use Rattle.engine_player.proofs.cycle_player.CyclePlayer.make.Goals as goal

pub make_move-requires-clause-purses : goal.make_move-requires-clause-purses
make_move-requires-clause-purses c = has_room c.self.inside.game.state c.self.inside.moves c.self.invariant.purses (room_left _ c.args.self.now c.self.view_is c.requires.room)

pub make_move-requires-in-White-clause-purses : goal.make_move-requires-in-White-clause-purses
make_move-requires-in-White-clause-purses c =
    has_room c.self.inside.game.state c.self.inside.moves c.self.invariant.purses (room_left _ c.args.self.now c.self.view_is c.requires.room)

pub invariant_of-self : goal.invariant_of-self
invariant_of-self c =
    let i = c.self.inside in let m = c.make_move in let game = i.game in
    let side = sym (ap (λ s. s.side) c.whole.ensures) ∙ sym c.side.ensures ∙ c.in-Black.is in
    let moved = engine_moves_moved game.regions game.state m.new.game.state (kept_of i.black) (kept_of m.new.kept) c.args.chosen m.ensures.made in
    let own = subst (λ d. Serves game.regions d m.new.game.state (kept_of m.new.kept)) side
    (serves_after game.regions game.state m.new.game.state c.args.chosen (kept_of i.black) (kept_of m.new.kept) m.ensures.made) in
    subst (IsFitPlayer m.new.game m.new.kept i.white _) (sym m.ensures.counted)
    (black_behind game m.new.game i.black i.white m.new.kept i.white i.scratch.items _ i.moves c.self.invariant c.args.chosen moved m.ensures.regions
    (room_left _ c.args.self.now c.self.view_is c.requires.room) record {
      black_many = m.ensures.many;
      white_many = c.self.invariant.many.white_many;
      scratch_many = written_back i.scratch.items m.new.scratch i.scratch.len i.scratch.ok.0 c.self.invariant.many.scratch_many m.ensures.room;
    } side own refl)

pub invariant_of-self-in-White : goal.invariant_of-self-in-White
invariant_of-self-in-White c =
    let i = c.self.inside in let m = c.make_move-in-White in let game = i.game in
    let side = sym (ap (λ s. s.side) c.whole.ensures) ∙ sym c.side.ensures ∙ c.in-White.is in
    let moved = engine_moves_moved game.regions game.state m.new.game.state (kept_of i.white) (kept_of m.new.kept) c.args.chosen m.ensures.made in
    let own = subst (λ d. Serves game.regions d m.new.game.state (kept_of m.new.kept)) side
    (serves_after game.regions game.state m.new.game.state c.args.chosen (kept_of i.white) (kept_of m.new.kept) m.ensures.made) in
    subst (IsFitPlayer m.new.game i.black m.new.kept _) (sym m.ensures.counted)
    (white_behind game m.new.game i.black i.white i.black m.new.kept i.scratch.items _ i.moves c.self.invariant c.args.chosen moved m.ensures.regions
    (room_left _ c.args.self.now c.self.view_is c.requires.room) record {
      black_many = c.self.invariant.many.black_many;
      white_many = m.ensures.many;
      scratch_many = written_back i.scratch.items m.new.scratch i.scratch.len i.scratch.ok.0 c.self.invariant.many.scratch_many m.ensures.room;
    } side own refl)
