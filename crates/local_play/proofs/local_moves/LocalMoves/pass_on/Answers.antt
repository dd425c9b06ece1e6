use Rattle.std.proofs.Common.{refl}
use Rattle.local_play.proofs.ListLemmas.{white_starts, all_given}
use Rattle.local_play.proofs.local_moves.LocalMoves.pass_on.Goals as goal

pub returns-in-Black-clause-given : goal.returns-in-Black-clause-given
returns-in-Black-clause-given c touch cells given have =
    white_starts touch cells given c.args.self.now have (record { turn = c.other-self.result; rest = c.other-self.result.empty }) c.in-Black.is
    c.other-self.ensures.colour (c.other-self.ensures.turn touch cells have.turn) refl

pub returns-in-White-clause-given : goal.returns-in-White-clause-given
returns-in-White-clause-given c touch cells given have = all_given touch cells given c.args.self.now have c.in-White.is
