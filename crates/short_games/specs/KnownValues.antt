-- Values that every book has, as instances of the definitions.
use Rattle.std.specs.Prelude.{ℕ, ◌≡◌, ◌≤◌, ℤ, pos, negsuc}
use Rattle.short_games.specs.Tree.{Tree}
use Rattle.short_games.specs.Order.{◌≤ᵍ◌, ◌⧏ᵍ◌, ◌≡ᵍ◌}
use Rattle.short_games.specs.Sum.{◌+ᵍ◌}
use Rattle.short_games.specs.Number.{num, IsNumber}
use Rattle.short_games.specs.Simplest.{IsSimplestFor}
use Rattle.short_games.specs.Stops.{IsLeftStop, IsRightStop}
use Rattle.short_games.specs.TextOrder.{IsCanonicalTree, IsCanonicalFor}
use Rattle.short_games.specs.Walls.{IsLeftWall, IsRightWall}
use Rattle.short_games.specs.Examples.{choice, zero, one, two, three, minus_one, minus_two, half, minus_half, three_quarters, minus_five_eighths, star, up, two_switch, uneven_switch, two_steps, tiny, star_two}

-- 0, 2, -2 and 1/2 are numbers, and 0 is the simplest number for {-2|2}; star, up, {2|0}, tiny-two and the nimber of 2 are
-- no numbers
abbrev pub KnownNumbers : Type 0
KnownNumbers = (num 0 (pos 0) ≡ zero) × (num 0 (pos 2) ≡ two) × (num 0 (negsuc 1) ≡ minus_two) × (num 1 (pos 1) ≡ half) × IsSimplestFor (choice minus_two two) zero
    × (IsNumber star → ⊥) × (IsNumber up → ⊥) × (IsNumber two_switch → ⊥) × (IsNumber tiny → ⊥) × (IsNumber star_two → ⊥)

-- the trees of 1, 3, -1, -1/2, 3/4 and -5/8
abbrev pub KnownFractions : Type 0
KnownFractions = (num 0 (pos 1) ≡ one) × (num 0 (pos 3) ≡ three) × (num 0 (negsuc 0) ≡ minus_one) × (num 1 (negsuc 0) ≡ minus_half) × (num 2 (pos 3) ≡ three_quarters)
    × (num 3 (negsuc 4) ≡ minus_five_eighths)

-- G is less than H: at most H, and not at least
abbrev pub IsLess : Tree → Tree → Type 0
IsLess G H = (G ≤ᵍ H) × (G ⧏ᵍ H)

-- neither of two games is at least the other
abbrev pub AreConfused : Tree → Tree → Type 0
AreConfused G H = (G ⧏ᵍ H) × (H ⧏ᵍ G)

-- 0 < 1/2 < 1 and 0 < tiny < up < 1/2; the nimbers are confused with 0 and with one another, up with star, and {2|0} with 1
abbrev pub KnownOrder : Type 0
KnownOrder = IsLess zero half × IsLess half one × IsLess zero tiny × IsLess tiny up × IsLess up half
    × AreConfused zero star × AreConfused up star × AreConfused zero star_two × AreConfused star star_two × AreConfused one two_switch

-- 1/2 and 1/2 are 1; nimbers are their own negatives; and twice {2|0} is 2
abbrev pub KnownSums : Type 0
KnownSums = ((half +ᵍ half) ≡ᵍ one) × ((star +ᵍ star) ≡ᵍ zero) × ((star_two +ᵍ star_two) ≡ᵍ zero) × ((two_switch +ᵍ two_switch) ≡ᵍ two)

-- 0, 1/2, star, up, {2|0}, tiny-two and the nimber of 2 are canonical, and {star|star} has the canonical form 0
abbrev pub KnownCanonical : Type 0
KnownCanonical = IsCanonicalTree zero × IsCanonicalTree half × IsCanonicalTree star × IsCanonicalTree up × IsCanonicalTree two_switch × IsCanonicalTree tiny × IsCanonicalTree star_two
    × IsCanonicalFor (choice star star) zero

-- the stops of {2|0} are 2 and 0, those of 1/2 are 1/2, and those of star, up, tiny-two and the nimber of 2 are 0
abbrev pub KnownStops : Type 0
KnownStops = IsLeftStop 0 two_switch (pos 2) × IsRightStop 0 two_switch (pos 0) × IsLeftStop 1 half (pos 1) × IsRightStop 1 half (pos 1)
    × IsLeftStop 0 star (pos 0) × IsRightStop 0 star (pos 0) × IsLeftStop 0 up (pos 0) × IsRightStop 0 up (pos 0)
    × IsLeftStop 0 tiny (pos 0) × IsRightStop 0 tiny (pos 0) × IsLeftStop 0 star_two (pos 0) × IsRightStop 0 star_two (pos 0)

-- the thermograph is a mast alone: both walls of the tree are x at each t
abbrev pub HasMast : Tree → ℕ → ℤ → Type 0
HasMast G k x = (t : ℕ) → IsLeftWall G k t x × IsRightWall G k t x

-- the walls of {2|0} are 2 and 0 at 0, 3/2 and 1/2 at 1/2, and 1 from 1 on; those of 1/2 are 1/2, and those of star, up,
-- tiny-two and the nimber of 2 are 0
abbrev pub KnownWalls : Type 0
KnownWalls = IsLeftWall two_switch 0 0 (pos 2) × IsRightWall two_switch 0 0 (pos 0) × IsLeftWall two_switch 1 1 (pos 3) × IsRightWall two_switch 1 1 (pos 1)
    × ((t : ℕ) → 1 ≤ t → IsLeftWall two_switch 0 t (pos 1) × IsRightWall two_switch 0 t (pos 1))
    × HasMast half 1 (pos 1) × HasMast star 0 (pos 0) × HasMast up 0 (pos 0) × HasMast tiny 0 (pos 0) × HasMast star_two 0 (pos 0)

-- the walls of {2|-1} are 2 and -1 at 0, and 1/2 from 3/2 on
abbrev pub KnownSwitch : Type 0
KnownSwitch = IsLeftWall uneven_switch 0 0 (pos 2) × IsRightWall uneven_switch 0 0 (negsuc 0)
    × ((t : ℕ) → 3 ≤ t → IsLeftWall uneven_switch 1 t (pos 1) × IsRightWall uneven_switch 1 t (pos 1))

-- the left wall of {4||2|0} is 4 at 0 and 3 at 1, its right wall is 2 at 0 and at 1, and both are 5/2 from 3/2 on
abbrev pub KnownTwoSteps : Type 0
KnownTwoSteps = IsLeftWall two_steps 0 0 (pos 4) × IsRightWall two_steps 0 0 (pos 2) × IsLeftWall two_steps 0 1 (pos 3) × IsRightWall two_steps 0 1 (pos 2)
    × ((t : ℕ) → 3 ≤ t → IsLeftWall two_steps 1 t (pos 5) × IsRightWall two_steps 1 t (pos 5))
