use Rattle.std.proofs.Common.{take}
use Rattle.report.specs.inner.Values.{HasEntries}
use Rattle.report.proofs.values.write_entries.Given as goal

abbrev pub invariant-writing : goal.invariant-writing
invariant-writing l = HasEntries l.solved.state.board.columns (take l.number l.solved.regions) l.fn.text l.text
