use Rattle.std.proofs.Common.{◌*◌}
use Rattle.report.specs.Safety.{AreCountedBelow}
use Rattle.report.proofs.safety.counted_lines.Given as goal

abbrev pub invariant-counting : goal.invariant-counting
invariant-counting l = AreCountedBelow l.board (2 * l.number) l.lines.items
