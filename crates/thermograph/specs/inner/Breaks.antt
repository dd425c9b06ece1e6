-- Break points while a wall is drawn.
use Rattle.std.specs.Prelude.{ℕ, ℤ, pos, neg_ℤ, ◌-ℤ◌, ◌≤ℤ◌, List}
use Rattle.dyadic_num.specs.declared.TheConstants.{LIMIT}
use Rattle.thermograph.specs.declared.breaks.Break.{Break}
use Rattle.thermograph.specs.Breaks.{wall_at}

-- the number is within the bounds of a Dyadic
abbrev pub IsInRange : ℤ → Type 0
IsInRange x = (neg_ℤ (LIMIT -ℤ pos 1) ≤ℤ x) × (x ≤ℤ (LIMIT -ℤ pos 1))

-- the wall that break points draw is nowhere past the bounds
abbrev pub IsLevel : List Break → Type 0
IsLevel bs = ((t : ℕ) → IsInRange (wall_at bs t))
