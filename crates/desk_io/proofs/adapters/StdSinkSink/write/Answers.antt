use Rattle.std.proofs.Common.{arith}
use Rattle.desk_io.proofs.PieceLemmas.{passed_more}
use Rattle.desk_io.proofs.adapters.StdSinkSink.write.Goals as goal

pub loop-preserved-in-Ok : goal.loop-preserved-in-Ok
loop-preserved-in-Ok g c = record {
  count = c.loop.invariant.count;
  fits = omega (arith, c.loop.invariant.fits, c.in-Ok.ensures.bound);
  passed = passed_more _ _ _ c.args.bytes.now c.loop.sent c.in-Ok.count c.loop.invariant.passed c.in-Ok.ensures.bytes;
}
