-- The laws of numbers beside other games.
use Rattle.std.specs.Prelude.{ℕ, ◌≡◌, ℤ}
use Rattle.short_games.specs.Tree.{Tree, Trees, node, none, left, right, Has}
use Rattle.short_games.specs.Order.{◌≤ᵍ◌, ◌≡ᵍ◌}
use Rattle.short_games.specs.Sum.{◌+ᵍ◌, each_plus, total}
use Rattle.short_games.specs.Number.{num, IsNumber, IsNumberTree}
use Rattle.short_games.specs.Simplest.{FitsForm, IsSimplestFor}
use Rattle.short_games.specs.Moves.{LeftMoves, RightMoves, LeftWins, RightWins}
use Rattle.short_games.specs.TextOrder.{IsCanonicalTree}

-- the trees are canonical and none of them is a number's, and there is at least one
pub record AreNoNumbers (Gs : Trees) : Type 0 where
  pub some : (G : Tree) × Has Gs G
  pub canonical : (G : Tree) → Has Gs G → IsCanonicalTree G
  pub no_numbers : (G : Tree) → Has Gs G → IsNumberTree G → ⊥

-- Where Left, who moves first, wins the sum of a number and canonical trees that are no numbers, a move in one of the trees
-- wins it: after it the sum is at least 0
abbrev pub LeftAvoidsNumbers : Type 0
LeftAvoidsNumbers = (Gs : Trees) (e : ℕ) (m : ℤ) → AreNoNumbers Gs → LeftWins (total Gs +ᵍ num e m) → (Hs : Trees) × LeftMoves Gs Hs × (node none none ≤ᵍ total Hs +ᵍ num e m)

-- Where Right, who moves first, wins the sum of a number and canonical trees that are no numbers, a move in one of the trees
-- wins it: after it the sum is at most 0
abbrev pub RightAvoidsNumbers : Type 0
RightAvoidsNumbers = (Gs : Trees) (e : ℕ) (m : ℤ) → AreNoNumbers Gs → RightWins (total Gs +ᵍ num e m) → (Hs : Trees) × RightMoves Gs Hs × (total Hs +ᵍ num e m ≤ᵍ node none none)

-- A canonical tree that is no number and a number add up to the tree whose options are the game's, each with the number added
abbrev pub NumbersTranslate : Type 0
NumbersTranslate = (G : Tree) (e : ℕ) (m : ℤ) → IsCanonicalTree G → (IsNumberTree G → ⊥)
    → (G +ᵍ num e m) ≡ᵍ node (each_plus (left G) (num e m)) (each_plus (right G) (num e m))

-- a game has the value of the simplest number that fits between its options
abbrev pub SimplestIsValue : Type 0
SimplestIsValue = (G X : Tree) → IsSimplestFor G X → G ≡ᵍ X

-- where a number fits there is a simplest one, and no other
abbrev pub FittingHaveSimplest : Type 0
FittingHaveSimplest = (G X : Tree) → IsNumberTree X → FitsForm G X → (Y : Tree) × IsSimplestFor G Y × ((Z : Tree) → IsSimplestFor G Z → Y ≡ Z)

-- between the options of a game that is equal to a number a number fits
abbrev pub NumbersFit : Type 0
NumbersFit = (G : Tree) → IsNumber G → (X : Tree) × IsNumberTree X × FitsForm G X
