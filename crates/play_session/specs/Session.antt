-- The session of a game: what each turn writes, and where the session stands after it.
use Rattle.std.specs.Prelude.{◌≡◌, ◌≢◌, ◌⊎◌, ℕ, zero, suc, ◌+◌, ◌<◌, List, [], ◌++◌, codes, Result, Ok, Err, Option, Some, None}
use Rattle.desk_io.specs.declared.lines.TheConstants.{MOST_LINES}
use Rattle.go_grid.specs.declared.grid.Colour.{Colour}
use Rattle.go_grid.specs.Board.{Board, other}
use Rattle.board_words.specs.Words.{winner_line, word_line}
use Rattle.whole_rules.specs.Moves.{move_word}
use Rattle.endgame_solver.specs.Solved.{HasMove}
use Rattle.engine_player.specs.EngineGame.{EngineGame, EngineGoes, GoesByHand}
use Rattle.whole_rules.specs.WholeGame.{Whole}
use Rattle.whole_rules.specs.declared.states.Move.{Move}
use Rattle.whole_rules.specs.declared.states.MoveError.{MoveError}
use Rattle.whole_rules.specs.declared.states.MoveError.TheVariants.{NotContested, Occupied, Suicide, EmptyPurse, NoHalf}
use Rattle.play_session.specs.declared.end.SessionEnd.{SessionEnd}
use Rattle.play_session.specs.declared.end.SessionEnd.TheVariants.{Won, Lost, InputEnded, TooManyLines}
use Rattle.desk_io.specs.Lines.{IsLine}
use Rattle.play_session.specs.Words.{NamesMove}

-- where a session stands: the game, how many lines were read, and the bytes that are left
pub record Standing : Type 0 where
  pub game : EngineGame
  pub read : ℕ
  pub left : List ℕ

-- the line of the engine's move
abbrev pub engine_line : Board → Move → List ℕ
engine_line g m = word_line (codes "engine") (move_word g.columns m)

-- the line of a move of the opponent's that was made
abbrev pub played_line : Board → Move → List ℕ
played_line g m = word_line (codes "played") (move_word g.columns m)

-- the line of why a line of the opponent's is refused
abbrev pub refused_line : List ℕ → List ℕ
refused_line why = word_line (codes "refused") why

-- the words for why a move is illegal
abbrev pub refusal_word : MoveError → List ℕ
refusal_word NotContested = codes "not contested"
refusal_word Occupied = codes "occupied"
refusal_word Suicide = codes "suicide"
refusal_word EmptyPurse = codes "empty purse"
refusal_word NoHalf = codes "no half"

-- the line of the end of the opponent's lines
abbrev pub input_line : List ℕ
input_line = word_line (codes "input") (codes "ended")

-- the line that answers a move
abbrev pub answer_line : Board → Move → Result Unit MoveError → List ℕ
answer_line g m (Ok _) = played_line g m
answer_line g m (Err e) = refused_line (refusal_word e)

-- the engine makes a move that it chooses, and its line is written
pub record EngineMoves (p : EngineGame) (text : List ℕ) (q : EngineGame) : Type 0 where
  pub chosen : Move
  pub goes : EngineGoes p chosen q
  pub written : text ≡ engine_line p.state.board chosen

-- the engine's turn: it moves, and no line is read
pub record IsEngineTurn (engine : Colour) (a : Standing) (text : List ℕ) (b : Standing) : Type 0 where
  pub turn : a.game.state.side ≡ engine
  pub moved : EngineMoves a.game text b.game
  pub same_count : b.read ≡ a.read
  pub same_bytes : b.left ≡ a.left

-- what is written in answer to the opponent, and the game after, where a move or none was asked for
abbrev pub AnswersOpponent : EngineGame → Option Move → List ℕ → EngineGame → Type 0
AnswersOpponent p None text q = (text ≡ refused_line (codes "line")) × (q ≡ p)
AnswersOpponent p (Some m) text q = (result : Result Unit MoveError) × GoesByHand p m result q × (text ≡ answer_line p.state.board m result)

-- it is the opponent's turn, and the opponent has a move
abbrev pub IsToAnswer : Colour → Whole → Type 0
IsToAnswer engine s = (s.side ≡ other engine) × HasMove s

-- the opponent's turn: one line is read and answered
pub record IsOpponentTurn (engine : Colour) (a : Standing) (text : List ℕ) (b : Standing) : Type 0 where
  pub turn : IsToAnswer engine a.game.state
  pub few : a.read < MOST_LINES
  pub some : a.left ≢ []
  pub line : List ℕ
  pub asked : Option Move
  pub taken : IsLine 256 a.left line b.left
  pub asks : NamesMove a.game.state.board line asked
  pub answered : AnswersOpponent a.game asked text b.game
  pub counted : b.read ≡ a.read + 1

-- a turn after which the session goes on
abbrev pub Turn : Colour → Standing → List ℕ → Standing → Type 0
Turn engine a text b = IsEngineTurn engine a text b ⊎ IsOpponentTurn engine a text b

-- the session ends here: the side to move has no move, or the opponent is to move and no line may be read or is left
abbrev pub Ends : Colour → Standing → List ℕ → SessionEnd → Type 0
Ends engine a text Won = ¬ HasMove a.game.state × (a.game.state.side ≡ other engine) × (text ≡ winner_line engine)
Ends engine a text Lost = ¬ HasMove a.game.state × (a.game.state.side ≡ engine) × (text ≡ winner_line (other engine))
Ends engine a text TooManyLines = IsToAnswer engine a.game.state × (a.read ≡ MOST_LINES) × (text ≡ [])
Ends engine a text InputEnded = IsToAnswer engine a.game.state × (a.read < MOST_LINES) × (a.left ≡ []) × (text ≡ input_line)
Ends engine a text _ = ⊥

-- so many turns, one after the other, and what they write
abbrev pub Turns : Colour → ℕ → Standing → List ℕ → Standing → Type 0
Turns engine zero a text b = (text ≡ []) × (b ≡ a)
Turns engine (suc n) a text c = (b : Standing) × ((first then : List ℕ) × Turns engine n a first b × Turn engine b then c × (text ≡ first ++ then))

-- the line of the turn that comes next, or of the end
abbrev pub IsNextLine : Colour → Standing → List ℕ → Type 0
IsNextLine engine a text = ((b : Standing) × Turn engine a text b) ⊎ ((end : SessionEnd) × Ends engine a text end)

-- all turns up to one of the opponent's, whose line is still to be read
abbrev pub Waits : Colour → Standing → List ℕ → Standing → Type 0
Waits engine a text b = (n : ℕ) × Turns engine n a text b × IsToAnswer engine b.game.state × (b.read < MOST_LINES)

-- turns, and a front part of the line after them
abbrev pub BreaksOff : Colour → Standing → List ℕ → Type 0
BreaksOff engine a text = (n : ℕ) × (b : Standing) × (first last more : List ℕ) × Turns engine n a first b × IsNextLine engine b (last ++ more) × (text ≡ first ++ last)

-- a whole session: turns, and then its end
pub record IsSession (engine : Colour) (a : Standing) (text : List ℕ) (b : Standing) (end : SessionEnd) : Type 0 where
  pub number : ℕ
  pub first : List ℕ
  pub last : List ℕ
  pub turns : Turns engine number a first b
  pub ends : Ends engine b last end
  pub whole : text ≡ first ++ last
