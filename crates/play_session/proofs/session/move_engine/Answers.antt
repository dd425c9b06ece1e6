use Rattle.std.proofs.Common.{subst}
use Rattle.engine_player.specs.EngineGame.{EngineGoes}
use Rattle.engine_player.proofs.RoomLemmas.{room_behind_engine}
use Rattle.play_session.proofs.session.move_engine.Goals as goal

pub unreachable-requires : goal.unreachable-requires
unreachable-requires g c = c.in_default.ensures.choice c.requires.movable

pub returns-clause-room : goal.returns-clause-room
returns-clause-room g c = λ n room.
    room_behind_engine c.args.player.now c.make.new.self c.in-Some.chosen n
    (subst (λ p. EngineGoes p c.in-Some.chosen c.make.new.self) c.choose.ensures.same c.make.ensures.made) room
