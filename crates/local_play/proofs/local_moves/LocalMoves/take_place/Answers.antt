use Rattle.std.proofs.Common.{refl}
use Rattle.local_play.proofs.ListLemmas.{turn_given, place_taken}
use Rattle.local_play.proofs.local_moves.LocalMoves.take_place.Goals as goal

pub returns-in_default-clause-taken : goal.returns-in_default-clause-taken
returns-in_default-clause-taken c touch cells given have = turn_given touch cells given c.args.self.now have (c.in_default.ensures {u = tt})

pub returns-clause-taken : goal.returns-clause-taken
returns-clause-taken c touch cells given have =
    let first = c.in-Some.ensures {u = tt} in
    place_taken touch cells given c.args.self.now (record { turn = c.args.self.now.turn; rest = c.without-self.result }) c.of.result c.in-Some.place
    have first.1 first.2 c.of.ensures c.without-self.ensures.rest refl
