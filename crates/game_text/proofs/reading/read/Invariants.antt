use Rattle.std.proofs.Common.{◌-◌, length}
use Rattle.game_store.specs.Meaning.{Extends}
use Rattle.game_text.specs.inner.Machine.{IsReading}
use Rattle.game_text.proofs.reading.read.Given as goal

abbrev pub invariant-reading : goal.invariant-reading
invariant-reading l = record { reading : IsReading l.store l.parts_limit l.text l.step.at l.step.place l.pending.options.items l.pending.opens.items; kept : Extends l.fn.store l.store }

abbrev pub decreases-reading : goal.decreases-reading
decreases-reading l = length l.text - l.step.at
