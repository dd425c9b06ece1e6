-- The laws of stops, for games in any form.
use Rattle.std.specs.Prelude.{ℕ, ◌+◌, ◌≤◌, ◌^◌, ◌≡◌, ◌↔◌, ℤ, pos, neg_ℤ, ◌+ℤ◌, ◌-ℤ◌, ◌*ℤ◌, ◌<ℤ◌, ◌≤ℤ◌}
use Rattle.short_games.specs.Tree.{Tree, neg}
use Rattle.short_games.specs.Order.{◌≤ᵍ◌, ◌⧏ᵍ◌, ◌≡ᵍ◌}
use Rattle.short_games.specs.Sum.{◌+ᵍ◌}
use Rattle.short_games.specs.Number.{num}
use Rattle.short_games.specs.TextOrder.{IsCanonicalTree}
use Rattle.short_games.specs.Stops.{IsLeftStop, IsRightStop}
use Rattle.short_games.specs.GameStops.{HasLeftStop, HasRightStop}
use Rattle.short_games.specs.KnownValues.{IsLess}
use Rattle.short_games.specs.Examples.{choice, zero, one, minus_one, two, two_switch}

-- each game has both stops on each grid that is fine enough
abbrev pub GamesHaveStops : Type 0
GamesHaveStops = (G : Tree) → (e : ℕ) × ((k : ℕ) → e ≤ k → (l r : ℤ) × HasLeftStop k G l × HasRightStop k G r)

-- a stop on a grid is the same number on a finer one
abbrev pub StopsGoOn : Type 0
StopsGoOn = (d e : ℕ) (G : Tree) (x : ℤ) → (HasLeftStop e G x → HasLeftStop (d + e) G (x *ℤ pos (2 ^ d))) × (HasRightStop e G x → HasRightStop (d + e) G (x *ℤ pos (2 ^ d)))

-- of a canonical tree they are its stops
abbrev pub CanonicalStopsAgree : Type 0
CanonicalStopsAgree = (e : ℕ) (G : Tree) (x : ℤ) → IsCanonicalTree G → (IsLeftStop e G x ↔ HasLeftStop e G x) × (IsRightStop e G x ↔ HasRightStop e G x)

-- the number that is y / 2 ^ (d + e) above x / 2 ^ e
abbrev pub above : (e d : ℕ) (x y : ℤ) → Tree
above e d x y = num (d + e) ((x *ℤ pos (2 ^ d)) +ℤ y)

-- the number that is y / 2 ^ (d + e) below x / 2 ^ e
abbrev pub below : (e d : ℕ) (x y : ℤ) → Tree
below e d x y = num (d + e) ((x *ℤ pos (2 ^ d)) -ℤ y)

-- a game is at most each number above its left stop, and at most none below
abbrev pub LeftStopBounds : Type 0
LeftStopBounds = (e : ℕ) (G : Tree) (x : ℤ) → HasLeftStop e G x → (d : ℕ) (y : ℤ) → pos 0 <ℤ y → (G ≤ᵍ above e d x y) × (G ≤ᵍ below e d x y → ⊥)

-- a game is at least each number below its right stop, and at least none above
abbrev pub RightStopBounds : Type 0
RightStopBounds = (e : ℕ) (G : Tree) (x : ℤ) → HasRightStop e G x → (d : ℕ) (y : ℤ) → pos 0 <ℤ y → (below e d x y ≤ᵍ G) × (above e d x y ≤ᵍ G → ⊥)

-- the stops of a game that is at most another are at most the other's, so that equal games have equal stops
abbrev pub StopsKeepOrder : Type 0
StopsKeepOrder = (e : ℕ) (G H : Tree) (x y : ℤ) → G ≤ᵍ H → (HasLeftStop e G x → HasLeftStop e H y → x ≤ℤ y) × (HasRightStop e G x → HasRightStop e H y → x ≤ℤ y)

-- the right stop of a game is at most its left stop
abbrev pub RightStopIsLess : Type 0
RightStopIsLess = (e : ℕ) (G : Tree) (l r : ℤ) → HasLeftStop e G l → HasRightStop e G r → r ≤ℤ l

-- what the signs of the stops tell: with a right stop above 0 Left wins, with a left stop above 0 Left wins moving first; and
-- so for Right
pub record SignsTell (e : ℕ) (G : Tree) (x : ℤ) : Type 0 where
  pub positive : HasRightStop e G x → pos 0 <ℤ x → IsLess zero G
  pub negative : HasLeftStop e G x → x <ℤ pos 0 → IsLess G zero
  pub left_first : HasLeftStop e G x → pos 0 <ℤ x → zero ⧏ᵍ G
  pub right_first : HasRightStop e G x → x <ℤ pos 0 → G ⧏ᵍ zero

-- stops other than 0 tell who wins
abbrev pub StopsTellOutcomes : Type 0
StopsTellOutcomes = (e : ℕ) (G : Tree) (x : ℤ) → SignsTell e G x

-- the right stop of the negative is the negative of the left stop, and the other way round
abbrev pub StopsTurn : Type 0
StopsTurn = (e : ℕ) (G : Tree) (x : ℤ) → (HasLeftStop e G x ↔ HasRightStop e (neg G) (neg_ℤ x)) × (HasRightStop e G x ↔ HasLeftStop e (neg G) (neg_ℤ x))

-- both stops of two games and of their sum
pub record HaveStops (e : ℕ) (G H : Tree) (l r l' r' s t : ℤ) : Type 0 where
  pub left_first : HasLeftStop e G l
  pub right_first : HasRightStop e G r
  pub left_second : HasLeftStop e H l'
  pub right_second : HasRightStop e H r'
  pub left_sum : HasLeftStop e (G +ᵍ H) s
  pub right_sum : HasRightStop e (G +ᵍ H) t

-- the left stop of a sum lies between the sum of a left and a right stop and that of both left stops, and the right stop
-- between the sum of both right stops and that of a left and a right stop
pub record StopsBound (l r l' r' s t : ℤ) : Type 0 where
  pub left_at_most : s ≤ℤ (l +ℤ l')
  pub left_over_first : (r +ℤ l') ≤ℤ s
  pub left_over_second : (l +ℤ r') ≤ℤ s
  pub right_at_least : (r +ℤ r') ≤ℤ t
  pub right_under_first : t ≤ℤ (r +ℤ l')
  pub right_under_second : t ≤ℤ (l +ℤ r')

-- the stops of a sum are bounded by those of the two games
abbrev pub StopsOfSums : Type 0
StopsOfSums = (e : ℕ) (G H : Tree) (l r l' r' s t : ℤ) → HaveStops e G H l r l' r' s t → StopsBound l r l' r' s t

-- with a number added a game has the stops of the game and the number
abbrev pub StopsTranslate : Type 0
StopsTranslate = (e : ℕ) (G X : Tree) (x y z : ℤ) → X ≡ᵍ num e y
    → (HasLeftStop e G x → HasLeftStop e (G +ᵍ X) z → z ≡ x +ℤ y) × (HasRightStop e G x → HasRightStop e (G +ᵍ X) z → z ≡ x +ℤ y)

-- {-1|1} is 0 and {0|2} is 1, so these are their stops; those of {2|0} are 2 and 0
abbrev pub KnownGameStops : Type 0
KnownGameStops = HasLeftStop 0 (choice minus_one one) (pos 0) × HasRightStop 0 (choice minus_one one) (pos 0) × HasLeftStop 0 (choice zero two) (pos 1) × HasRightStop 0 (choice zero two) (pos 1)
    × HasLeftStop 0 two_switch (pos 2) × HasRightStop 0 two_switch (pos 0)
