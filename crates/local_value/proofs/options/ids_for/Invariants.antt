use Rattle.std.proofs.Common.{◌≡◌, take}
use Rattle.local_value.specs.Remembered.{options_of}
use Rattle.local_value.proofs.options.ids_for.Given as goal

abbrev pub invariant-loop-option : goal.invariant-loop-option
invariant-loop-option l = l.ids.items ≡ options_of l.player (take l.option-index l.options)
