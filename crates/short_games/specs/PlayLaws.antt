-- Outcomes: who wins by play, against the order.
use Rattle.std.specs.Prelude.{◌↔◌, ◌⊎◌}
use Rattle.short_games.specs.Tree.{Tree, neg}
use Rattle.short_games.specs.Order.{◌≤ᵍ◌, ◌⧏ᵍ◌, ◌≡ᵍ◌}
use Rattle.short_games.specs.Sum.{◌+ᵍ◌}
use Rattle.short_games.specs.Moves.{LeftWins, RightWins}
use Rattle.short_games.specs.Examples.{zero}
use Rattle.short_games.specs.KnownValues.{IsLess, AreConfused}
use Rattle.short_games.specs.Play.{LeftWinsFirst, LeftWinsSecond, RightWinsFirst, RightWinsSecond}

-- exactly one of the two wins, whoever of them moves first
pub record HasOneWinner (G : Tree) : Type 0 where
  pub left_first : LeftWinsFirst G ⊎ RightWinsSecond G
  pub right_first : RightWinsFirst G ⊎ LeftWinsSecond G
  pub not_both_left : LeftWinsFirst G → RightWinsSecond G → ⊥
  pub not_both_right : RightWinsFirst G → LeftWinsSecond G → ⊥

-- each game has one winner for each who moves first
abbrev pub GamesAreDetermined : Type 0
GamesAreDetermined = (G : Tree) → HasOneWinner G

-- G is at least 0 where Left wins moving second and at most 0 where Right does, and not so where the other wins moving first
pub record GoesByPlay (G : Tree) : Type 0 where
  pub at_least : (zero ≤ᵍ G) ↔ LeftWinsSecond G
  pub at_most : (G ≤ᵍ zero) ↔ RightWinsSecond G
  pub not_at_most : (zero ⧏ᵍ G) ↔ LeftWinsFirst G
  pub not_at_least : (G ⧏ᵍ zero) ↔ RightWinsFirst G

-- the order against 0 is who wins by play
abbrev pub OrderIsPlay : Type 0
OrderIsPlay = (G : Tree) → GoesByPlay G

-- the four outcomes: Left wins, Right wins, who moves second wins, and who moves first wins
pub record HasOutcome (G : Tree) : Type 0 where
  pub positive : IsLess zero G ↔ (LeftWinsFirst G × LeftWinsSecond G)
  pub negative : IsLess G zero ↔ (RightWinsFirst G × RightWinsSecond G)
  pub equal : (G ≡ᵍ zero) ↔ (LeftWinsSecond G × RightWinsSecond G)
  pub confused : AreConfused G zero ↔ (LeftWinsFirst G × RightWinsFirst G)

-- a game is above, below, equal to or confused with 0 where Left, Right, who moves second or who moves first wins it
abbrev pub OutcomesAre : Type 0
OutcomesAre = (G : Tree) → HasOutcome G

-- G is at most H where Left wins H - G moving second
abbrev pub PlayCompares : Type 0
PlayCompares = (G H : Tree) → (G ≤ᵍ H) ↔ LeftWinsSecond (H +ᵍ neg G)

-- a move after which the other side doesn't win, in the order's words, is a first winning move of play
abbrev pub MovesWinByPlay : Type 0
MovesWinByPlay = (G : Tree) → (LeftWins G ↔ LeftWinsFirst G) × (RightWins G ↔ RightWinsFirst G)
