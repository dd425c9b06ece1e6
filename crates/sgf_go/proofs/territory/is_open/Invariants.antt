use Rattle.std.proofs.Common.{ℕ, ◌<◌, get_or}
use Rattle.sgf_go.specs.Territory.{IsHeldBy}
use Rattle.sgf_go.specs.inner.Territory.{marking}
use Rattle.sgf_go.proofs.territory.is_open.Given as goal

abbrev pub invariant-loop-near : goal.invariant-loop-near
invariant-loop-near l = (i : ℕ) → i < l.near-index → IsHeldBy l.board (marking l.marks) l.colour (get_or l.near-items i 0)
