use Rattle.std.proofs.Common.{IfSome}
use Rattle.local_value.specs.inner.Options.{IsOptionAmong}
use Rattle.local_value.proofs.undominated.leader.Given as goal

abbrev pub invariant-loop-option : goal.invariant-loop-option
invariant-loop-option l = IfSome l.best (IsOptionAmong l.player l.options)
