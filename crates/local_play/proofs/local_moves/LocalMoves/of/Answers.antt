use Rattle.std.proofs.Common.{refl}
use Rattle.local_play.proofs.ListLemmas.{black_starts}
use Rattle.local_play.proofs.local_moves.LocalMoves.of.Goals as goal

pub returns-clause-none : goal.returns-clause-none
returns-clause-none g c touch cells table long is =
    black_starts touch cells (record { turn = c.of-turn.result; rest = c.of-turn.result.empty }) (c.of-turn.ensures.turn touch cells table long is)
    c.of-turn.ensures.black refl
