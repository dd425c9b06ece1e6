-- Number avoidance and number translation, for all forms of a game and of a number.
use Rattle.short_games.specs.Tree.{Tree, Trees, node, none, left, right, Has}
use Rattle.short_games.specs.Order.{◌≤ᵍ◌, ◌≡ᵍ◌}
use Rattle.short_games.specs.Sum.{◌+ᵍ◌, each_plus, total}
use Rattle.short_games.specs.Number.{IsNumber}
use Rattle.short_games.specs.Moves.{LeftMoves, RightMoves, LeftWins, RightWins}

-- Where Left, who moves first, wins the sum of a game that is no number and a number, a move in the game wins it
abbrev pub LeftMovesInGame : Type 0
LeftMovesInGame = (G X : Tree) → (IsNumber G → ⊥) → IsNumber X → LeftWins (G +ᵍ X) → (L : Tree) × Has (left G) L × (node none none ≤ᵍ L +ᵍ X)

-- Where Right, who moves first, wins the sum of a game that is no number and a number, a move in the game wins it
abbrev pub RightMovesInGame : Type 0
RightMovesInGame = (G X : Tree) → (IsNumber G → ⊥) → IsNumber X → RightWins (G +ᵍ X) → (R : Tree) × Has (right G) R × (R +ᵍ X ≤ᵍ node none none)

-- there is at least one game, and none of them is equal to a number
pub record NoneIsNumber (Gs : Trees) : Type 0 where
  pub some : (G : Tree) × Has Gs G
  pub no_numbers : (G : Tree) → Has Gs G → IsNumber G → ⊥

-- Where Left, who moves first, wins the sum of games that are no numbers and a number, a move in one of the games wins it
abbrev pub LeftMovesInGames : Type 0
LeftMovesInGames = (Gs : Trees) (X : Tree) → NoneIsNumber Gs → IsNumber X → LeftWins (total Gs +ᵍ X) → (Hs : Trees) × LeftMoves Gs Hs × (node none none ≤ᵍ total Hs +ᵍ X)

-- Where Right, who moves first, wins the sum of games that are no numbers and a number, a move in one of the games wins it
abbrev pub RightMovesInGames : Type 0
RightMovesInGames = (Gs : Trees) (X : Tree) → NoneIsNumber Gs → IsNumber X → RightWins (total Gs +ᵍ X) → (Hs : Trees) × RightMoves Gs Hs × (total Hs +ᵍ X ≤ᵍ node none none)

-- a game that is no number and a number add up to the game whose options are those of the game, each with the number added
abbrev pub NumbersShift : Type 0
NumbersShift = (G X : Tree) → (IsNumber G → ⊥) → IsNumber X → (G +ᵍ X) ≡ᵍ node (each_plus (left G) X) (each_plus (right G) X)
