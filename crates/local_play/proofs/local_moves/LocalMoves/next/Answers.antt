use Rattle.std.proofs.Common.{arith}
use Rattle.local_play.proofs.ListLemmas.{none_given, one_given}
use Rattle.local_play.proofs.local_moves.LocalMoves.next.Goals as goal

pub returns-in-Some-try_stone-clause-given : goal.returns-in-Some-try_stone-clause-given
returns-in-Some-try_stone-clause-given c touch cells given table have =
    let taken = c.in-Some.ensures.taken touch cells given (c.trying.invariant.given touch cells given table have) in
    let found = c.in-Some-try_stone.ensures touch cells table taken.1.turn taken.0 in
    one_given touch cells given c.take_place.new.self c.in-Some.place taken.1 c.in-Some-try_stone.found found.0 found.1 found.2

pub trying-preserved : goal.trying-preserved
trying-preserved c = record {
  given = λ touch cells given table have.
      let taken = c.in-Some.ensures.taken touch cells given (c.trying.invariant.given touch cells given table have) in
      none_given touch cells given c.take_place.new.self c.in-Some.place taken.1 (c.in_default-try_stone.ensures touch cells table taken.1.turn taken.0);
  fewer = omega (arith, c.in-Some.ensures.fewer, c.trying.invariant.fewer);
}

pub returns-clause-given : goal.returns-clause-given
returns-clause-given c touch cells given table have =
    c.in_default.ensures.taken touch cells given (c.trying.invariant.given touch cells given table have)
