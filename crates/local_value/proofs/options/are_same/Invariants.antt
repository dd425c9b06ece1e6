use Rattle.std.proofs.Common.{◌≡◌, ◌<◌, ℕ, get_or}
use Rattle.local_value.proofs.options.are_same.Given as goal

abbrev pub invariant-comparing : goal.invariant-comparing
invariant-comparing l = (k : ℕ) → k < l.at → get_or l.options k 0 ≡ get_or l.others k 0
