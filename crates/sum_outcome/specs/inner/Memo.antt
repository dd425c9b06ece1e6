-- What the memo of a search keeps.
use Rattle.std.specs.Prelude.{ℕ, ℤ, ◌≡◌, ◌⊎◌, List, Contains, Bool}
use Rattle.go_grid.specs.declared.grid.Colour.{Colour}
use Rattle.short_games.specs.Tree.{Tree}
use Rattle.short_games.specs.Order.{◌≡ᵍ◌}
use Rattle.game_store.specs.Meaning.{AreIds}
use Rattle.sum_outcome.specs.Sums.{sum_tree}
use Rattle.sum_outcome.specs.declared.key.Key.{Key}
use Rattle.sum_outcome.specs.declared.memo.Memo.{Memo}
use Rattle.sum_outcome.specs.Memo.{Search, key_tree, mover_of_key, IsAnswer, Fits}

-- what a memo remembers
abbrev pub remembered : Memo → Search
remembered memo = record { entries = memo.sums.cap; sums = memo.sums.entries; incentives = memo.incentives.answers.entries; comparisons = memo.incentives.comparisons; zero = memo.zero }

-- a memo has room for as many pairs of moves as sums
abbrev pub HasBounds : Memo → Type 0
HasBounds memo = memo.incentives.answers.cap ≡ memo.sums.cap

-- all that a memo remembers is of ids of the store, and right there
abbrev pub IsRight : List Tree → Memo → Type 0
IsRight Ts memo = Fits Ts (remembered memo)

-- what a memo remembers is right afterwards, and there is room for as much as before
pub record StaysRight (Ts : List Tree) (before now : Memo) : Type 0 where
  pub right : IsRight Ts now
  pub sums : now.sums.cap ≡ before.sums.cap
  pub incentives : now.incentives.answers.cap ≡ before.incentives.answers.cap

-- where what a memo remembers is right, so is this answer
abbrev pub IsRecalled : Memo → Key → Bool → Type 0
IsRecalled memo key lost = (Ts : List Tree) → IsRight Ts memo → IsAnswer Ts key lost

-- what a memo remembers stays right once a right answer is added
abbrev pub Learns : Key → Bool → Memo → Memo → Type 0
Learns key lost before now = (Ts : List Tree) → IsAnswer Ts key lost → IsRight Ts before → StaysRight Ts before now

-- the key is one of a player's sum: its sum is equal to that one, its games are ids of the store, and the player is to move
pub record IsKeyOf (Ts : List Tree) (ids : List ℕ) (x : ℤ) (c : Colour) (key : Key) : Type 0 where
  pub same : sum_tree Ts ids x ≡ᵍ key_tree Ts key
  pub mover : mover_of_key key ≡ c
  pub known : AreIds Ts key.games.items

-- two keys have the same games, the same number and the same player to move
pub record AreSame (a b : Key) : Type 0 where
  pub games : a.games.items ≡ b.games.items
  pub number : a.number ≡ b.number
  pub black : a.black ≡ b.black

module _ {K : Type 0} (Same : K → K → Type 0) where
  -- the answer stands in the list for this key
  abbrev pub IsAmong : List (K × Bool) → K → Bool → Type 0
  IsAmong entries key answer = (e : K × Bool) × Contains entries e × Same e.0 key × (e.1 ≡ answer)

  -- each entry afterwards was there, or is the answer for this key
  abbrev pub AreKept : List (K × Bool) → K → Bool → List (K × Bool) → Type 0
  AreKept before key answer now = (e : K × Bool) → Contains now e → Contains before e ⊎ (Same e.0 key × (e.1 ≡ answer))

-- no entry is new
abbrev pub NoneIsNew : {E : Type 0} → List E → List E → Type 0
NoneIsNew {E} before now = (e : E) → Contains now e → Contains before e
