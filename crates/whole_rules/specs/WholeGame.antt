-- States of the whole game and their moves.
use Rattle.std.specs.Prelude.{ℕ, ◌≡◌, ◌≢◌, ◌<◌, ◌≤◌, ◌↔◌, List, Bool, length, slice_index_or, Contains, Result, Ok, Err, Option, Some, None}
use Rattle.go_grid.specs.declared.grid.TheConstants.{MOST_POINTS}
use Rattle.go_grid.specs.declared.grid.Colour.{Colour}
use Rattle.go_grid.specs.Board.{Board, IsEmpty, other}
use Rattle.go_grid.specs.Marks.{IsMarked}
use Rattle.go_play.specs.Place.{IsPlaced, IsNumberTaken, IsSuicide}
use Rattle.whole_rules.specs.declared.money.Purses.{Purses}
use Rattle.whole_rules.specs.declared.money.Token.TheVariants.{Nobody}
use Rattle.whole_rules.specs.declared.states.Move.{Move}
use Rattle.whole_rules.specs.declared.states.Move.TheVariants.{Stone, Spend, Half}
use Rattle.whole_rules.specs.declared.states.MoveError.{MoveError}
use Rattle.whole_rules.specs.declared.states.MoveError.TheVariants.{NotContested, Occupied, Suicide, EmptyPurse, NoHalf}
use Rattle.whole_rules.specs.Purses.{purse, paid_in, paid_out, halved}

-- a state of the whole game
pub record Whole : Type 0 where
  pub board : Board
  -- a mark for each contested point
  pub contested : List Bool
  pub purses : Purses
  pub side : Colour

-- the board and the purses after a move, and the other side to move
abbrev pub after : Board → Purses → Whole → Whole
after h m s = record s { board = h; purses = m; side = other s.side }

-- the move leads from the one state to the other
abbrev pub IsMove : Whole → Move → Whole → Type 0
IsMove s (Stone p) t = IsMarked s.contested p × ((h : Board) × ((n : ℕ) × IsPlaced s.board p s.side h × IsNumberTaken s.board h n × (t ≡ after h (paid_in s.side n s.purses) s)))
IsMove s Spend t = (1 ≤ purse s.side s.purses) × (t ≡ after s.board (paid_out s.side s.purses) s)
IsMove s Half t = (s.purses.token ≢ Nobody) × (t ≡ after s.board (halved s.side s.purses) s)

-- some state is reached by the move
abbrev pub IsLegal : Whole → Move → Type 0
IsLegal s m = (t : Whole) × IsMove s m t

-- some move leads from the one state to the other
abbrev pub Leads : Whole → Whole → Type 0
Leads s t = (m : Move) × IsMove s m t

-- a point of the board that is contested
abbrev pub IsContestedPoint : Whole → ℕ → Type 0
IsContestedPoint s p = (p < length s.board.cells) × IsMarked s.contested p

-- why a move is illegal
abbrev pub Refuses : Whole → Move → MoveError → Type 0
Refuses s (Stone p) NotContested = ¬ IsContestedPoint s p
Refuses s (Stone p) Occupied = IsContestedPoint s p × ¬ IsEmpty s.board p
Refuses s (Stone p) Suicide = IsContestedPoint s p × IsEmpty s.board p × IsSuicide s.board p s.side
Refuses s Spend EmptyPurse = purse s.side s.purses ≡ 0
Refuses s Half NoHalf = s.purses.token ≡ Nobody
Refuses _ _ _ = ⊥

-- what a move answers, from the one state to the other
abbrev pub Applies : Whole → Move → Whole → Result Unit MoveError → Type 0
Applies s m t (Ok _) = IsMove s m t
Applies s m t (Err e) = (t ≡ s) × Refuses s m e

-- the order of moves: stones by point, then a point spent, then the half
abbrev pub rank : Move → ℕ
rank (Stone p) = p
rank Spend = MOST_POINTS
rank Half = 626

-- the rank of the move at a place of a list
abbrev pub rank_at : List Move → ℕ → ℕ
rank_at ms k = rank (slice_index_or ms k Half)

-- each move ranks below the later ones
abbrev pub AreOrdered : List Move → Type 0
AreOrdered ms = (j k : ℕ) → j < k → k < length ms → rank_at ms j < rank_at ms k

-- the list has the legal moves, in their order
pub record ListsMoves (s : Whole) (ms : List Move) : Type 0 where
  pub ordered : AreOrdered ms
  pub exact : (m : Move) → Contains ms m ↔ IsLegal s m

-- the first legal move, where there is one
abbrev pub IsFirstMove : Whole → Option Move → Type 0
IsFirstMove s (Some m) = IsLegal s m × ((k : Move) → IsLegal s k → rank m ≤ rank k)
IsFirstMove s None = (k : Move) → ¬ IsLegal s k
