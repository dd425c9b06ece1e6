use Rattle.std.proofs.Common.{take}
use Rattle.cycle_report.specs.inner.CycleValues.{HasLinesOfEach}
use Rattle.cycle_report.proofs.cycle_values.write_entries.Given as goal

abbrev pub invariant-writing : goal.invariant-writing
invariant-writing l = HasLinesOfEach l.game.state.board.columns (take l.number l.game.regions) l.fn.text l.text
