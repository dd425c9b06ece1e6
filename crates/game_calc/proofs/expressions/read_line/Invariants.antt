use Rattle.std.proofs.Common.{◌-◌, length}
use Rattle.game_calc.specs.inner.Machine.{IsReading}
use Rattle.game_store.specs.Meaning.{Extends}
use Rattle.game_calc.proofs.expressions.read_line.Given as goal

abbrev pub invariant-reading : goal.invariant-reading
invariant-reading l = IsReading l.fn.pass l.store l.parts_limit l.text l.step.at l.step.place l.pending.opens.items l.pending.first × Extends l.fn.store l.store

abbrev pub decreases-reading : goal.decreases-reading
decreases-reading l = length l.text - l.step.at
