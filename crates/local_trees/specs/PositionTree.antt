-- The tree of a local position, where local moves are a relation.
use Rattle.std.specs.Prelude.{ℕ, zero, suc, ◌^◌, ◌≡◌, ◌≤◌, List, [], ◌∷◌, length}
use Rattle.go_grid.specs.declared.grid.Cell.{Cell}
use Rattle.go_grid.specs.declared.region.Touch.{Touch}
use Rattle.local_play.specs.LocalPlay.{IsLocalMove, IsNumberTaken}
use Rattle.short_games.specs.Order.{◌≡ᵍ◌}
use Rattle.short_games.specs.TextOrder.{IsCanonicalTree}
use Rattle.go_grid.specs.declared.grid.Colour.{Colour}
use Rattle.short_games.specs.Tree.{Tree, node, none, Has}
use Rattle.short_games.specs.Sum.{◌+ᵍ◌}
use Rattle.game_players.specs.Players.{options, gain}
use Rattle.local_trees.specs.LocalGame.{Step}

module _ (P : Type 0) (IsMove : Colour → P → Step P → Type 0) where
  -- G is a tree of the position, cut off after n moves: its options are the trees after the local moves, each with
  -- what the move takes
  abbrev pub IsTree : ℕ → P → Tree → Type 0
  IsTree zero p G = G ≡ node none none
  IsTree (suc n) p G = (c : Colour)
      → ((X : Tree) → Has (options c G) X → (x : Step P) × ((Y : Tree) × IsMove c p x × IsTree n x.to Y × (X ≡ Y +ᵍ gain c x.taken)))
      × ((x : Step P) → IsMove c p x → (Y : Tree) × IsTree n x.to Y × Has (options c G) (Y +ᵍ gain c x.taken))

module _ (P : Type 0) (StepsTo : P → P → Type 0) where
  -- the positions of the list follow one another by local moves, the first of them after p
  abbrev pub IsPlay : P → List P → Type 0
  IsPlay p [] = Unit {0}
  IsPlay p (q ∷ qs) = StepsTo p q × IsPlay q qs

  -- no play from p has more than n moves
  abbrev pub PlaysAreShort : ℕ → P → Type 0
  PlaysAreShort n p = (qs : List P) → IsPlay p qs → length qs ≤ n

-- a local move of a position, and what it takes
abbrev pub IsStep : List Touch → Colour → List Cell → Step (List Cell) → Type 0
IsStep touch c cells x = (p : ℕ) × IsLocalMove touch cells c p x.to × IsNumberTaken cells x.to x.taken

-- a tree of the local position, cut off after n moves
abbrev pub IsTreeOf : List Touch → ℕ → List Cell → Tree → Type 0
IsTreeOf touch n cells G = IsTree (List Cell) (IsStep touch) n cells G

-- V is the value of the position: the canonical tree of a tree of it that is cut off after 3 to the number of places moves
pub record IsValueOf (touch : List Touch) (cells : List Cell) (V : Tree) : Type 0 where
  pub tree : Tree
  pub of_position : IsTreeOf touch (3 ^ length cells) cells tree
  pub canonical : IsCanonicalTree V
  pub same : tree ≡ᵍ V
