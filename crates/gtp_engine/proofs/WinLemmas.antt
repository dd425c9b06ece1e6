-- An engine that has won keeps its win.
use Rattle.std.proofs.Common.{zero, suc, inl, inr, refl}
use Rattle.whole_rules.specs.PlainRecursion.{MoverWins}
use Rattle.whole_rules.specs.WholeGame.{Whole, Leads}
use Rattle.endgame_solver.specs.Solved.{HasMove}
use Rattle.engine_player.proofs.EngineGameLaws.{engine_wins}
use Rattle.gtp_engine.specs.Laws.{MoveKeepsWin}

has_move : (s : Whole) → MoverWins Whole Leads s → HasMove s
has_move s (zero, w) = absurd w
has_move s (suc n, w) = (w.1.0, (w.0, w.1.1))

pub win_is_kept : MoveKeepsWin
win_is_kept p q said wins (inl g) = engine_wins p q g.0 (inl (refl, wins)) g.1
win_is_kept p q said wins (inr g) = absurd (g.0 (has_move p.state wins))
