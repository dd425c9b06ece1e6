-- The laws of sums.
use Rattle.std.specs.Prelude.{pos}
use Rattle.short_games.specs.Tree.{Tree, neg}
use Rattle.short_games.specs.Order.{◌≤ᵍ◌, ◌≡ᵍ◌}
use Rattle.short_games.specs.Sum.{◌+ᵍ◌}
use Rattle.short_games.specs.Number.{num}

-- sums of games that are at most others are at most the others' sum
abbrev pub SumsKeepOrder : Type 0
SumsKeepOrder = (G H K M : Tree) → G ≤ᵍ H → K ≤ᵍ M → G +ᵍ K ≤ᵍ H +ᵍ M

-- a game and its negative add up to 0
abbrev pub CancelsNegative : Type 0
CancelsNegative = (G : Tree) → (G +ᵍ neg G) ≡ᵍ num 0 (pos 0)

-- the incentive of an option G' of G is G' - G
abbrev pub incentive : Tree → Tree → Tree
incentive G G' = G' +ᵍ neg G

-- Where the incentive of an option H' of H is at most that of an option G' of G, it is dominated by it: to move to G'
-- and leave H is at least as good as to leave G and move to H'
abbrev pub IncentiveDominates : Type 0
IncentiveDominates = (G G' H H' : Tree) → incentive H H' ≤ᵍ incentive G G' → G +ᵍ H' ≤ᵍ G' +ᵍ H

-- Where to move from G to its option G' and leave H is at least as good as to leave G and move from H to its option H', the
-- incentive of H' is at most that of G'
abbrev pub IncentiveDominatesBack : Type 0
IncentiveDominatesBack = (G G' H H' : Tree) → G +ᵍ H' ≤ᵍ G' +ᵍ H → incentive H H' ≤ᵍ incentive G G'
