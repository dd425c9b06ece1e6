use Rattle.std.proofs.Common.{◌≡◌, ◌≤◌, ◌+◌}
use Rattle.desk_io.specs.declared.lines.TheConstants.{MOST_LINES}
use Rattle.whole_rules.specs.FirstWinningMove.{IsWinner}
use Rattle.desk_io.specs.Lines.{UsesLines}
use Rattle.engine_player.specs.Room.{CanTake}
use Rattle.play_session.specs.inner.Written.{turns_left}
use Rattle.play_session.proofs.SessionLaws.{Going}
use Rattle.play_session.proofs.session.Session.turns.Given as goal

abbrev pub invariant-turns : goal.invariant-turns
invariant-turns g l = Going l.fn.self (g.S.Source.left l.fn.lines) (g.K.Sink.holds l.fn.out) l.self l.read (g.S.Source.left l.lines) (g.K.Sink.holds l.out)
    × (l.self.engine ≡ l.fn.self.engine) × (IsWinner l.fn.self.game.state l.fn.self.engine → IsWinner l.self.game.state l.fn.self.engine) × (l.read ≤ MOST_LINES)
    × (g.S.Source.faults l.fn.lines ≤ g.S.Source.faults l.lines) × (g.K.Sink.faults l.fn.out ≤ g.K.Sink.faults l.out)
    × UsesLines 256 0 l.read l.fn.self.held (g.S.Source.left l.fn.lines) l.self.held (g.S.Source.left l.lines)
    × CanTake (turns_left l.self l.read + 1) l.self.game

abbrev pub decreases-turns : goal.decreases-turns
decreases-turns g l = turns_left l.self l.read
