-- A game of several parts, with two purses and a token.
use Rattle.std.specs.Prelude.{ℕ, ◌≡◌, ◌≢◌, ◌⊎◌, ◌≤◌, ◌^◌, ◌↔◌, List, [], ◌∷◌, Contains, ℤ, pos, negsuc, ◌+ℤ◌}
use Rattle.go_grid.specs.declared.grid.Colour.{Colour}
use Rattle.go_grid.specs.declared.grid.Colour.TheVariants.{Black, White}
use Rattle.go_grid.specs.Board.{other}
use Rattle.whole_rules.specs.declared.money.Purses.{Purses}
use Rattle.whole_rules.specs.Purses.{purse, paid_in, paid_out, halved}
use Rattle.whole_rules.specs.declared.money.Token.{Token}
use Rattle.whole_rules.specs.declared.money.Token.TheVariants as token
use Rattle.whole_rules.specs.PlainRecursion.{MoverWins, MoverLoses}
use Rattle.local_trees.specs.Ending.{EndsWithin}
use Rattle.short_games.specs.Tree.{Tree, node, none}
use Rattle.short_games.specs.Sum.{◌+ᵍ◌}
use Rattle.short_games.specs.Number.{num}
use Rattle.game_players.specs.Players.{credit, gain, LosesGame}
use Rattle.local_trees.specs.LocalGame.{Step, StepsTo, tree_within}

-- the tree of a token: half a unit for its owner
abbrev pub token_tree : Token → Tree
token_tree token.Nobody = num 0 (pos 0)
token_tree token.Black = num 1 (pos 1)
token_tree token.White = num 1 (negsuc 0)

-- the tree of the purses: what each player has is to the player's good, and half a unit for the owner of the token
abbrev pub purses_tree : Purses → Tree
purses_tree m = (gain Black m.black +ᵍ gain White m.white) +ᵍ token_tree m.token

-- the token in halves of a unit, to Black's good
abbrev pub halves : Token → ℤ
halves token.Nobody = pos 0
halves token.Black = pos 1
halves token.White = negsuc 0

-- Black's purse less White's, with the token, in halves of a unit
abbrev pub balance : Purses → ℤ
balance m = let n : ℤ = credit Black m.black +ℤ credit White m.white in (n +ℤ n) +ℤ halves m.token

-- neither purse passes 2 ^ 42
pub record AreModest (m : Purses) : Type 0 where
  pub black : m.black ≤ 2 ^ 42
  pub white : m.white ≤ 2 ^ 42

-- a state of the game: the positions of its parts, the purses, and the side to move
pub record State (P : Type 0) : Type 0 where
  pub parts : List P
  pub purses : Purses
  pub side : Colour

module _ (P : Type 0) (moves : Colour → P → List (Step P)) where
  -- a local move of the player in one of the parts, which takes k stones, leads from the one list to the other
  abbrev pub StepIn : Colour → List P → List P → ℕ → Type 0
  StepIn c [] qs k = ⊥
  StepIn c (p ∷ ps) [] k = ⊥
  StepIn c (p ∷ ps) (q ∷ qs) k =
      (((x : Step P) × Contains (moves c p) x × (x.to ≡ q) × (x.taken ≡ k)) × (ps ≡ qs))
      ⊎ ((p ≡ q) × StepIn c ps qs k)

  -- the player to move makes a local move in one of the parts, and is paid for each stone that it takes
  abbrev pub ByStone : State P → State P → Type 0
  ByStone s t = (k : ℕ) × StepIn s.side s.parts t.parts k × (t.purses ≡ paid_in s.side k s.purses)

  -- the player to move spends a point of a purse that isn't empty
  abbrev pub BySpend : State P → State P → Type 0
  BySpend s t = (1 ≤ purse s.side s.purses) × (t.parts ≡ s.parts) × (t.purses ≡ paid_out s.side s.purses)

  -- the player to move removes a token that somebody owns
  abbrev pub ByHalf : State P → State P → Type 0
  ByHalf s t = (s.purses.token ≢ token.Nobody) × (t.parts ≡ s.parts) × (t.purses ≡ halved s.side s.purses)

  -- some move of the player to move leads from the one state to the other
  pub record Leads (s t : State P) : Type 0 where
    pub turn : t.side ≡ other s.side
    pub move : ByStone s t ⊎ (BySpend s t ⊎ ByHalf s t)

  -- the sum of the parts' trees, each cut off after n moves
  unfoldable pub parts_tree : ℕ → List P → Tree
  parts_tree n [] = node none none
  parts_tree n (p ∷ ps) = tree_within P moves n p +ᵍ parts_tree n ps

  -- the sum of the parts' trees, each cut off after n moves, and of the tree of the purses
  abbrev pub state_tree : ℕ → State P → Tree
  state_tree n s = parts_tree n s.parts +ᵍ purses_tree s.purses

  -- no play of either player in any order has more than n moves in any part
  abbrev pub AllEnd : ℕ → List P → Type 0
  AllEnd n [] = Unit {0}
  AllEnd n (p ∷ ps) = EndsWithin P (StepsTo P moves) n p × AllEnd n ps

  -- each play from the position ends, whichever player makes each move of it
  pub data EachPlayEnds : P → Type 0 where
    ends : {p : P} → ((q : P) → StepsTo P moves p q → EachPlayEnds q) → EachPlayEnds p

  -- the state has a winner, and the player to move loses exactly where the tree says so
  pub record IsDecidedBy (G : Tree) (s : State P) : Type 0 where
    pub has_winner : MoverWins (State P) Leads s ⊎ MoverLoses (State P) Leads s
    pub loser : MoverLoses (State P) Leads s ↔ LosesGame s.side G
