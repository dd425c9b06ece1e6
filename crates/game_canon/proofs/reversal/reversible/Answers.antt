use Rattle.std.proofs.Common.{arith}
use Rattle.game_canon.proofs.SideLaws.{above_more}
use Rattle.game_canon.proofs.reversal.reversible.Goals as goal

pub places-preserved : goal.places-preserved
places-preserved c = record {
  known = c.answer_to.ensures.known;
  so_far = above_more _ _ _ c.places-test.true c.places.invariant.so_far (rw c.in_default.is at c.in_ok-answer.ensures.found);
  within = omega (arith, c.places.invariant.within);
}

pub returns-clause-found : goal.returns-clause-found
returns-clause-found c = λ j l. c.places.invariant.so_far j (omega (arith, c.places-test.false)) l
