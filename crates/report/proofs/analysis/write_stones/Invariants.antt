use Rattle.std.proofs.Common.{◌≡◌, string_bytes}
use Rattle.report.specs.Analysis.{name_on}
use Rattle.report.specs.inner.Analysis.{HasStones}
use Rattle.report.proofs.analysis.write_stones.Given as goal

abbrev pub invariant-writing : goal.invariant-writing
invariant-writing l =
    HasStones (name_on l.fn.naming l.fn.solved.state.board) l.fn.solved.state l.fn.komi_halves l.number (string_bytes l.fn.text) (string_bytes l.text) × (l.solved ≡ l.fn.solved)
