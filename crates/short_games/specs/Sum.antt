-- The sum of two games.
use Rattle.short_games.specs.Tree.{Tree, Trees, node, none, more, ◌then◌}

abbrev mutual
  -- the sum of a game and H, where L and R give the sums of each Left and each Right option of the game and what they are
  -- given: the options are those of the game with H, then the game with those of H
  pub sum_of : (L R : Tree → Trees) → Tree → Tree
  sum_of L R (node ls rs) = node (L (node ls rs) then sum_of_each L R ls) (R (node ls rs) then sum_of_each L R rs)

  -- the sums of a game and each tree of a list, where L and R give the sums of each Left and each Right option of the game
  -- and what they are given
  pub sum_of_each : (L R : Tree → Trees) → Trees → Trees
  sum_of_each L R none = none
  sum_of_each L R (more H Hs) = more (sum_of L R H) (sum_of_each L R Hs)

unfoldable mutual
  -- G + H: a move is a move in one of the two
  pub ◌+ᵍ◌ : Tree → Tree → Tree
  (node ls rs) +ᵍ H = sum_of (λ K. each_plus ls K) (λ K. each_plus rs K) H

  -- G + H for each G of a list
  pub each_plus : Trees → Tree → Trees
  each_plus none H = none
  each_plus (more G Gs) H = more (G +ᵍ H) (each_plus Gs H)

infixl 60 ◌+ᵍ◌
-- G + H for each H of a list
unfoldable pub plus_each : Tree → Trees → Trees
plus_each G none = none
plus_each G (more H Hs) = more (G +ᵍ H) (plus_each G Hs)

-- the sum of a list of games
unfoldable pub total : Trees → Tree
total none = node none none
total (more G Gs) = G +ᵍ total Gs
