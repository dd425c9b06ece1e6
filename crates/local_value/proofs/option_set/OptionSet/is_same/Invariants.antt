use Rattle.std.proofs.Common.{ℕ, ◌<◌, get_or, Contains}
use Rattle.local_value.proofs.option_set.OptionSet.is_same.Given as goal

abbrev pub invariant-comparing : goal.invariant-comparing
invariant-comparing l = (k : ℕ) → k < l.option-index → Contains l.self (get_or l.others k 0)
