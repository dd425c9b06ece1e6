use Rattle.std.proofs.Common.{◌≡◌, IfSome, string_bytes}
use Rattle.report.specs.Analysis.{name_on}
use Rattle.report.specs.inner.TopStones.{HasTold, IsSmall}
use Rattle.report.proofs.top_stones.top_stones_text.Given as goal

abbrev pub invariant-stones : goal.invariant-stones
invariant-stones l =
    HasTold (name_on l.fn.naming l.fn.solved.state.board) l.fn.solved.state l.fn.komi_halves l._told l.last (string_bytes l.text) × (l.solved ≡ l.fn.solved)
