use Rattle.std.proofs.Common.{◌↔◌, IsTrue, not, subst, sym}
use Rattle.short_games.specs.Tree.{Tree}
use Rattle.game_players.specs.Players.{LosesGame}
use Rattle.endgame_solver.specs.Thresholds.{BlackWins}
use Rattle.endgame_solver.proofs.AskedLaws.{loses_unless}
use Rattle.endgame_solver.proofs.asked.loses_where.Goals as goal

pub returns-in-Black : goal.returns-in-Black
returns-in-Black c =
    subst (λ d. (G : Tree) → IsTrue c.args.won ↔ BlackWins d G → IsTrue (not c.args.won) ↔ LosesGame d G) (sym c.in-Black.is)
    (loses_unless c.args.won)
