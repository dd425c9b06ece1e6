-- What a list of break points draws.
use Rattle.std.specs.Prelude.{ℕ, ◌-◌, ◌≡◌, ◌<◌, ◌⊎◌, ℤ, pos, ◌+ℤ◌, ◌-ℤ◌, int_lt, nat_lt, cond, List, [], ◌∷◌}
use Rattle.thermograph.specs.declared.breaks.Break.{Break}

-- the number d away from x on the way to y
abbrev pub toward : ℤ → ℤ → ℕ → ℤ
toward x y d = cond (int_lt x y) (x +ℤ pos d) (cond (int_lt y x) (x -ℤ pos d) x)

-- the wall that goes straight from break point to break point, and stays at the last
unfoldable pub from : Break → List Break → ℕ → ℤ
from b [] t = b.value
from b (c ∷ bs) t = cond (nat_lt t c.at) (toward b.value c.value (t - b.at)) (from c bs t)

-- the wall that break points draw, straight from one to the next and level from the last on; 0 where there is none
unfoldable pub wall_at : List Break → ℕ → ℤ
wall_at [] t = pos 0
wall_at (b ∷ bs) t = from b bs t

-- the way from a break point leads straight to the first of the others, and so on from each to the next, in ascending order
abbrev pub Reaches : Break → List Break → Type 0
Reaches b [] = Unit {0}
Reaches b (c ∷ bs) = (b.at < c.at) × (toward b.value c.value (c.at - b.at) ≡ c.value) × Reaches c bs

-- break points in ascending order, where the way from each leads straight to the next
abbrev pub IsPath : List Break → Type 0
IsPath [] = Unit {0}
IsPath (b ∷ bs) = Reaches b bs

-- one of the break points is at t
abbrev pub IsBreakAt : List Break → ℕ → Type 0
IsBreakAt [] t = ⊥
IsBreakAt (b ∷ bs) t = (b.at ≡ t) ⊎ IsBreakAt bs t
