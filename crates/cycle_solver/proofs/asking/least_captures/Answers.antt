use Rattle.std.proofs.Common.{arith}
use Rattle.cycle_solver.proofs.SumLaws.{filled_wins, have_places, one_sum}
use Rattle.cycle_solver.proofs.asking.least_captures.Goals as goal

pub is_filled-requires-clause-places : goal.is_filled-requires-clause-places
is_filled-requires-clause-places c = let held = c.requires.seen.0 in have_places held.solved held.at c.args.player 0

pub returns-then-is_filled-clause-least : goal.returns-then-is_filled-clause-least
returns-then-is_filled-clause-least c = record {
  wins = filled_wins c.requires.seen.0 c.args.player c.requires.winner 0 c.args.sum.now (c.is_filled.ensures c.if-is_filled.true) c.requires.seen.1;
  least = λ j lt. absurd (omega (arith, lt));
}

pub fill-requires-clause-places : goal.fill-requires-clause-places
fill-requires-clause-places c = let held = c.requires.seen.0 in have_places held.solved held.at c.args.player 255

pub returns-clause-same : goal.returns-clause-same
returns-clause-same c = one_sum c.fill.ensures c.requires.seen.1
