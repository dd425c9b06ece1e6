use Rattle.std.proofs.Common.{◌≡◌, ◌≤◌, length, take}
use Rattle.std.specs.Io.KnownBytes.{Appends}
use Rattle.desk_io.proofs.adapters.StdSinkSink.write.Given as goal

abbrev pub invariant-loop : goal.invariant-loop
invariant-loop g l = record {
  count : l.self.faults ≡ l.fn.self.faults;
  fits : l.sent ≤ length l.bytes;
  passed : Appends (g.W.Write.contents l.fn.self.writer) (g.W.Write.contents l.self.writer) (take l.sent l.bytes);
}
