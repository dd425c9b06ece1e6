-- Games are a partly ordered group under sums, up to equality.
use Rattle.std.specs.Prelude.{◌≡◌, ◌↔◌}
use Rattle.short_games.specs.Tree.{Tree, neg}
use Rattle.short_games.specs.Order.{◌≤ᵍ◌, ◌≡ᵍ◌}
use Rattle.short_games.specs.Sum.{◌+ᵍ◌}
use Rattle.short_games.specs.Examples.{zero}

-- sums are associative, even as trees
abbrev pub SumsAssociate : Type 0
SumsAssociate = (G H K : Tree) → (G +ᵍ H) +ᵍ K ≡ G +ᵍ (H +ᵍ K)

-- sums are commutative
abbrev pub SumsCommute : Type 0
SumsCommute = (G H : Tree) → (G +ᵍ H) ≡ᵍ (H +ᵍ G)

-- 0 is neutral on both sides, even as a tree
abbrev pub ZeroIsNeutral : Type 0
ZeroIsNeutral = (G : Tree) → (G +ᵍ zero ≡ G) × (zero +ᵍ G ≡ G)

-- a game and its negative add up to 0
abbrev pub NegativesCancel : Type 0
NegativesCancel = (G : Tree) → (G +ᵍ neg G) ≡ᵍ zero

-- sums of equal games are equal
abbrev pub EqualsAdd : Type 0
EqualsAdd = (G H K M : Tree) → G ≡ᵍ H → K ≡ᵍ M → (G +ᵍ K) ≡ᵍ (H +ᵍ M)

-- two games are ordered as their sums with a third
abbrev pub SumsOrder : Type 0
SumsOrder = (G H K : Tree) → (G ≤ᵍ H) ↔ (G +ᵍ K ≤ᵍ H +ᵍ K)

-- negatives are ordered the other way round
abbrev pub NegativesTurn : Type 0
NegativesTurn = (G H : Tree) → (G ≤ᵍ H) ↔ (neg H ≤ᵍ neg G)

-- the negative of a sum is the sum of the negatives, even as a tree
abbrev pub NegativesAdd : Type 0
NegativesAdd = (G H : Tree) → neg (G +ᵍ H) ≡ neg G +ᵍ neg H

-- the negative of the negative is the game, even as a tree
abbrev pub NegativeTwice : Type 0
NegativeTwice = (G : Tree) → neg (neg G) ≡ G

-- G is at most H where their difference H - G is at least 0
abbrev pub DifferencesTell : Type 0
DifferencesTell = (G H : Tree) → (G ≤ᵍ H) ↔ (zero ≤ᵍ H +ᵍ neg G)
