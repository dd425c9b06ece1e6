-- A session has one text, and an engine that has won keeps its win.
use Rattle.std.specs.Prelude.{◌≡◌, ◌≢◌, ◌⊎◌, ℕ, ◌≤◌, List, [], ◌++◌, codes, length, Option, None, Some}
use Rattle.go_grid.specs.declared.grid.TheConstants.{MOST_POINTS}
use Rattle.go_grid.specs.declared.grid.Colour.{Colour}
use Rattle.go_grid.specs.Board.{Board, other}
use Rattle.board_words.specs.Words.{winner_line}
use Rattle.whole_rules.specs.FirstWinningMove.{IsWinner}
use Rattle.whole_rules.specs.PlainRecursion.{MoverLoses}
use Rattle.whole_rules.specs.declared.states.Move.{Move}
use Rattle.whole_rules.specs.declared.states.Move.TheVariants.{Stone}
use Rattle.whole_rules.specs.WholeGame.{Whole, IsMove, Leads}
use Rattle.whole_budgets.specs.EngineLaws.{EndsAtTurn, IsReached}
use Rattle.engine_player.specs.Played.{BothServe, Keeping, kept_by}
use Rattle.play_session.specs.declared.end.SessionEnd.{SessionEnd}
use Rattle.play_session.specs.declared.end.SessionEnd.TheVariants.{Lost}
use Rattle.play_session.specs.Session.{Standing, IsEngineTurn, IsOpponentTurn, Ends, Turns, IsSession, Waits, BreaksOff}

-- the engine wins here, after each of its turns the opponent is to move and loses, and the session doesn't end in the opponent's win
pub record KeepsWin (engine : Colour) (a : Standing) : Type 0 where
  pub winner : IsWinner a.game.state engine
  pub loses : (text : List ℕ) (b : Standing) → IsEngineTurn engine a text b → MoverLoses Whole Leads b.game.state
  pub never_lost : (text : List ℕ) (end : SessionEnd) → Ends engine a text end → (end ≢ Lost) × (text ≢ winner_line (other engine))

-- wherever turns lead from a state that the engine wins, the engine keeps its win
abbrev pub WinIsKept : Type 0
WinIsKept = (engine : Colour) (a b : Standing) (n : ℕ) (text : List ℕ) → IsWinner a.game.state engine → Turns engine n a text b → KeepsWin engine b

-- where kos are admitted: moves from the opening of a settled board lead to the state, and what both colours keep serves
abbrev pub IsSoundKeeping : Option Keeping → Whole → Type 0
IsSoundKeeping None s = Unit {0}
IsSoundKeeping (Some k) s = ((g : Board) × IsReached g k.regions s) × BothServe (record { state = s; keeping = k })

-- where kos are admitted: the engine, which is to move, wins within a number of moves, whatever the opponent plays
abbrev pub EndsWonKeeping : Colour → Option Keeping → Whole → Type 0
EndsWonKeeping c None s = Unit {0}
EndsWonKeeping c (Some k) s = (n : ℕ) × EndsAtTurn k.regions n s (kept_by c k)

-- wherever turns lead from a state that the engine wins to its turn, the game ends won within a number of moves, where kos are admitted
abbrev pub WonSessionsEnd : Type 0
WonSessionsEnd = (engine : Colour) (a b : Standing) (n : ℕ) (text : List ℕ) → IsSoundKeeping a.game.keeping a.game.state → IsWinner a.game.state engine
    → Turns engine n a text b → b.game.state.side ≡ engine → EndsWonKeeping engine b.game.keeping b.game.state

-- where kos are admitted: behind a move that the opponent makes here, no stone of the engine leads to the board before that move
abbrev pub TakesBackNoKo : Colour → Standing → Type 0
TakesBackNoKo engine b = (answer last : List ℕ) (c d : Standing) (k : Keeping) (m : Move) (p : ℕ) → IsOpponentTurn engine b answer c
    → IsMove b.game.state m c.game.state → c.game.keeping ≡ Some k → (turn : IsEngineTurn engine c last d) → turn.moved.chosen ≡ Stone p
    → d.game.state.board ≢ b.game.state.board

-- wherever turns lead from a state that the engine wins, it takes back no ko at once
abbrev pub SessionKeepsSimpleKo : Type 0
SessionKeepsSimpleKo = (engine : Colour) (a b : Standing) (n : ℕ) (text : List ℕ) → IsSoundKeeping a.game.keeping a.game.state → IsWinner a.game.state engine
    → Turns engine n a text b → TakesBackNoKo engine b

-- on a board of at most 625 points a session has one text and one end
abbrev pub HasOneText : Type 0
HasOneText = (engine : Colour) (a b c : Standing) (s t : List ℕ) (end final : SessionEnd) → length a.game.state.board.cells ≤ MOST_POINTS
    → IsSession engine a s b end → IsSession engine a t c final → (s ≡ t) × (b ≡ c) × (end ≡ final)

-- on a board of at most 625 points, what a failing read or a failing write leaves of a session is a front part of its text
abbrev pub HasOneBeginning : Type 0
HasOneBeginning = (engine : Colour) (a b : Standing) (s t : List ℕ) (end : SessionEnd) → length a.game.state.board.cells ≤ MOST_POINTS
    → ((c : Standing) × Waits engine a s c) ⊎ BreaksOff engine a s → IsSession engine a t b end → (more : List ℕ) × (t ≡ s ++ more)

-- the line stands in the text, at its front or behind a line feed
abbrev pub IsLineIn : List ℕ → List ℕ → Type 0
IsLineIn line text = (front back : List ℕ) × (text ≡ front ++ (line ++ back)) × ((front ≡ []) ⊎ ((start : List ℕ) × (front ≡ start ++ codes "\n")))
