-- Moves in a list of games, and who wins by moving first.
use Rattle.std.specs.Prelude.{◌≡◌, ◌⊎◌}
use Rattle.short_games.specs.Tree.{Tree, Trees, node, none, more, left, right, Has}
use Rattle.short_games.specs.Order.{◌≤ᵍ◌}

-- the second list is the first after a move of Left in one of its games
abbrev pub LeftMoves : Trees → Trees → Type 0
LeftMoves none Hs = ⊥
LeftMoves (more G Gs) none = ⊥
LeftMoves (more G Gs) (more H Hs) = (Has (left G) H × (Gs ≡ Hs)) ⊎ ((G ≡ H) × LeftMoves Gs Hs)

-- the second list is the first after a move of Right in one of its games
abbrev pub RightMoves : Trees → Trees → Type 0
RightMoves none Hs = ⊥
RightMoves (more G Gs) none = ⊥
RightMoves (more G Gs) (more H Hs) = (Has (right G) H × (Gs ≡ Hs)) ⊎ ((G ≡ H) × RightMoves Gs Hs)

-- Left, who moves first, has a move after which Right doesn't win
abbrev pub LeftWins : Tree → Type 0
LeftWins G = (X : Tree) × Has (left G) X × (node none none ≤ᵍ X)

-- Right, who moves first, has a move after which Left doesn't win
abbrev pub RightWins : Tree → Type 0
RightWins G = (X : Tree) × Has (right G) X × (X ≤ᵍ node none none)
