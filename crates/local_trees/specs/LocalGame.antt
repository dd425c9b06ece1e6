-- Local play in one part of a game.
use Rattle.std.specs.Prelude.{ℕ, zero, suc, ◌≡◌, ◌≤◌, List, [], ◌∷◌, Contains}
use Rattle.go_grid.specs.declared.grid.Colour.{Colour}
use Rattle.go_grid.specs.declared.grid.Colour.TheVariants.{Black, White}
use Rattle.short_games.specs.Tree.{Tree, Trees, node, none, more}
use Rattle.short_games.specs.Sum.{◌+ᵍ◌}
use Rattle.game_players.specs.Players.{gain}

-- where a local move leads, and how many stones it takes
pub record Step (P : Type 0) : Type 0 where
  pub to : P
  pub taken : ℕ

module _ (P : Type 0) (moves : Colour → P → List (Step P)) where
  -- the options that local moves of a player give, where `value` is the tree of a position
  abbrev pub after : (P → Tree) → Colour → List (Step P) → Trees
  after value c [] = none
  after value c (x ∷ xs) = more (value x.to +ᵍ gain c x.taken) (after value c xs)

  -- the tree of a position, cut off after n moves
  unfoldable pub tree_within : ℕ → P → Tree
  tree_within zero p = node none none
  tree_within (suc n) p = node (after (λ q. tree_within n q) Black (moves Black p)) (after (λ q. tree_within n q) White (moves White p))

  -- some local move of either player leads from the one position to the other
  abbrev pub StepsTo : P → P → Type 0
  StepsTo p q = (c : Colour) × ((x : Step P) × Contains (moves c p) x × (x.to ≡ q))

  -- no local move takes more than `most` stones
  abbrev pub TakesAtMost : ℕ → Type 0
  TakesAtMost most = (c : Colour) (p : P) (x : Step P) → Contains (moves c p) x → x.taken ≤ most
