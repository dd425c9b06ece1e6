-- A session: what each line is answered, and where the session stands after it.
use Rattle.std.specs.Prelude.{Bool, true, false, ◌≡◌, ◌≢◌, ◌⊎◌, ◌≤◌, ◌<◌, ◌*◌, ◌∷◌, ℕ, ℤ, pos, List, [], codes, replicate, Option, Some, None, Ok, Err}
use Rattle.std.specs.Str.{IsUtf8}
use Rattle.desk_io.specs.Files.{Files, told_file}
use Rattle.go_grid.specs.declared.grid.Cell.TheVariants as cell
use Rattle.go_grid.specs.declared.grid.Colour.{Colour}
use Rattle.go_grid.specs.declared.grid.Colour.TheVariants as colour
use Rattle.sgf_go.specs.declared.settings.Settings.{Settings}
use Rattle.go_play.specs.Setup.{Setup}
use Rattle.whole_rules.specs.declared.states.Move.{Move}
use Rattle.whole_rules.specs.declared.states.MoveError.{MoveError}
use Rattle.gtp_engine.specs.declared.limits.EngineLimits.{EngineLimits}
use Rattle.endgame_solver.specs.Solved.{HasMove}
use Rattle.engine_player.specs.EngineGame.{EngineGame, EngineGoes, GoesByHand}
use Rattle.engine_player.specs.Opening.{OpensGame, OpensNone}
use Rattle.gtp_engine.specs.declared.moves.Wanted.{Wanted}
use Rattle.gtp_engine.specs.declared.command.Command.{Command}
use Rattle.gtp_engine.specs.declared.reply.Refusal.{Refusal}
use Rattle.gtp_engine.specs.declared.reply.Refusal.TheVariants.{UnknownCommand, SyntaxError, UnacceptableSize, GameHasBegun, CannotSolve, NotInTurn, IllegalMove, CannotLoadFile}
use Rattle.gtp_words.specs.Replies.{signed_text}
use Rattle.gtp_words.specs.Files.{GivesNone, GivesSetup, load_settings}
use Rattle.gtp_words.specs.Loads.{Fate}
use Rattle.gtp_words.specs.Loads.Fate.{no_load, made, failed}
use Rattle.gtp_words.specs.Sessions.{Answers}
use Rattle.gtp_words.specs.Words.{AreWords, HasId, cleaned}
use Rattle.gtp_engine.specs.Moves.{move_for, move_text}
use Rattle.gtp_engine.specs.Request.{Order, Asked, Asks, command_word}
use Rattle.gtp_engine.specs.Request.Order.{protocol_version, name, version, known_command, list_commands, boardsize, clear_board, komi, play, genmove, loadsgf, quit}
use Rattle.gtp_engine.specs.Request.Asked.{something, unknown, misfit}

-- a setup, and the game that runs after it, if one does
pub record Table : Type 0 where
  pub setup : Setup
  pub game : Option EngineGame

-- a fresh empty board of the size: no prisoners, and Black to move
abbrev pub fresh : ℕ → ℕ → ℤ → Table
fresh columns rows halves = record {
  setup = record {
    board = record { columns = columns; rows = rows; cells = replicate (columns * rows) cell.Empty; declared = [] };
    black_prisoners = 0;
    white_prisoners = 0;
    komi_halves = halves;
    side = colour.Black;
  };
  game = None;
}

-- what is said: a text, or why the request is refused
pub data Said : Type 0 where
  done : List ℕ → Said
  refused : Refusal → Said

-- the text of a refusal
abbrev pub refusal_text : Refusal → List ℕ
refusal_text UnknownCommand = codes "unknown command"
refusal_text SyntaxError = codes "syntax error"
refusal_text UnacceptableSize = codes "unacceptable size"
refusal_text GameHasBegun = codes "game has begun"
refusal_text CannotSolve = codes "cannot solve"
refusal_text NotInTurn = codes "not in turn"
refusal_text IllegalMove = codes "illegal move"
refusal_text CannotLoadFile = codes "cannot load file"

-- the reply: its sign, the id, a blank, the text and two line feeds
abbrev pub reply_text : List ℕ → Said → List ℕ
reply_text id (done text) = signed_text (codes "=") id text
reply_text id (refused why) = signed_text (codes "?") id (refusal_text why)

-- the names of all commands, one a line
abbrev pub all_commands : List ℕ
all_commands = codes "protocol_version\nname\nversion\nknown_command\nlist_commands\nboardsize\nclear_board\nkomi\nplay\ngenmove\nloadsgf\nquit"

-- the text is said, and the table is that of before
abbrev pub RepliesWith : List ℕ → Table → Said → Table → Type 0
RepliesWith text t said u = (said ≡ done text) × (u ≡ t)

-- the request is refused for this reason, and the table is that of before
abbrev pub RefusesWith : Refusal → Table → Said → Table → Type 0
RefusesWith why t said u = (said ≡ refused why) × (u ≡ t)

-- the text says whether a word is the name of a command
abbrev pub SaysWhetherKnown : List ℕ → List ℕ → Type 0
SaysWhetherKnown word text = (((command : Command) × (word ≡ command_word command)) × (text ≡ codes "true"))
    ⊎ (((command : Command) → word ≢ command_word command) × (text ≡ codes "false"))

-- a size from 1 to 25 gives a fresh empty board with the present komi, and another is refused
abbrev pub TakesSize : ℕ → Table → Said → Table → Type 0
TakesSize n t said u = ((1 ≤ n) × (n ≤ 25) × (said ≡ done []) × (u ≡ fresh n n t.setup.komi_halves))
    ⊎ (((n < 1) ⊎ (25 < n)) × RefusesWith UnacceptableSize t said u)

-- the komi is taken where no game runs, and refused where one does
abbrev pub TakesKomi : ℤ → Table → Said → Table → Type 0
TakesKomi halves t said u = ((t.game ≡ None) × (said ≡ done []) × (u ≡ record { setup = record t.setup { komi_halves = halves }; game = None }))
    ⊎ (((p : EngineGame) × (t.game ≡ Some p)) × RefusesWith GameHasBegun t said u)

-- what a move of the side to move comes to, in its game
abbrev pub PlaysMove : Option Move → EngineGame → Said → EngineGame → Type 0
PlaysMove None p said q = (said ≡ refused IllegalMove) × (q ≡ p)
PlaysMove (Some m) p said q = (GoesByHand p m (Ok tt) q × (said ≡ done []))
    ⊎ ((e : MoveError) × GoesByHand p m (Err e) q × (said ≡ refused IllegalMove))

-- what a wanted move of the side to move comes to, in its game
abbrev pub PlaysWanted : Wanted → EngineGame → Said → EngineGame → Type 0
PlaysWanted wanted p said q = PlaysMove (move_for p.state.board.columns p.state.board.rows wanted) p said q

-- the engine's move, where the side to move has one
abbrev pub Generates : EngineGame → Said → EngineGame → Type 0
Generates p said q = ((m : Move) × EngineGoes p m q × (said ≡ done (move_text p.state.board.columns p.state.board.rows m)))
    ⊎ ((¬ HasMove p.state) × (said ≡ done (codes "resign")) × (q ≡ p))

-- the setup with the colour to move
abbrev pub with_side : Setup → Colour → Setup
with_side setup c = record setup { side = c }

-- A turn of the colour in a running game, or in that which a fresh setup opens with the colour to move.
abbrev pub TakesTurn : EngineLimits → Colour → (EngineGame → Said → EngineGame → Type 0) → Table → Said → Table → Type 0
TakesTurn limits c Act t said u =
    ((t.game ≡ None) × ((p q : EngineGame) × OpensGame limits.cycles limits.game false (with_side t.setup c) p × Act p said q
    × (u ≡ record { setup = with_side t.setup c; game = Some q })))
    ⊎ (((t.game ≡ None) × OpensNone limits.cycles limits.game (with_side t.setup c) × RefusesWith CannotSolve t said u)
    ⊎ (((p q : EngineGame) × (t.game ≡ Some p) × (p.state.side ≡ c) × Act p said q × (u ≡ record t { game = Some q }))
    ⊎ ((p : EngineGame) × (t.game ≡ Some p) × (p.state.side ≢ c) × RefusesWith NotInTurn t said u)))

-- a file of the shelf is loaded by the settings; a name that isn't UTF-8 isn't asked for
abbrev pub LoadsFile : Settings → Option Files → List ℕ → Fate → Table → Said → Table → Type 0
LoadsFile settings files file no_load t said u = (¬ IsUtf8 file) × RefusesWith CannotLoadFile t said u
LoadsFile settings files file made t said u = IsUtf8 file
    × (((setup : Setup) × GivesSetup (told_file files file) settings setup × (said ≡ done []) × (u ≡ record { setup = setup; game = None }))
    ⊎ (GivesNone (told_file files file) settings × RefusesWith CannotLoadFile t said u))
LoadsFile settings files file failed t said u = IsUtf8 file × RefusesWith CannotLoadFile t said u

-- what an order that loads nothing does
abbrev pub Does : EngineLimits → Order → Table → Said → Table → Type 0
Does limits protocol_version t said u = RepliesWith (codes "2") t said u
Does limits name t said u = RepliesWith (codes "gdsolve") t said u
Does limits version t said u = RepliesWith (codes "1") t said u
Does limits (known_command word) t said u = (text : List ℕ) × SaysWhetherKnown word text × RepliesWith text t said u
Does limits list_commands t said u = RepliesWith all_commands t said u
Does limits (boardsize n) t said u = TakesSize n t said u
Does limits clear_board t said u = (said ≡ done []) × (u ≡ fresh t.setup.board.columns t.setup.board.rows t.setup.komi_halves)
Does limits (komi halves) t said u = TakesKomi halves t said u
Does limits (play c wanted) t said u = TakesTurn limits c (PlaysWanted wanted) t said u
Does limits (genmove c) t said u = TakesTurn limits c Generates t said u
Does limits quit t said u = RepliesWith [] t said u
Does limits (loadsgf file after) t said u = ⊥

-- what an order does, by what becomes of its load
abbrev pub Obeys : EngineLimits → Option Files → Order → Fate → Table → Said → Table → Type 0
Obeys limits files (loadsgf file after) fate t said u = LoadsFile (load_settings limits.territory after) files file fate t said u
Obeys limits files order fate t said u = (fate ≡ no_load) × Does limits order t said u

-- what is done on what the words ask for
abbrev pub Meets : EngineLimits → Option Files → Asked → Fate → Table → Said → Table → Type 0
Meets limits files (something order) fate t said u = Obeys limits files order fate t said u
Meets limits files unknown fate t said u = (fate ≡ no_load) × RefusesWith UnknownCommand t said u
Meets limits files misfit fate t said u = (fate ≡ no_load) × RefusesWith SyntaxError t said u

-- whether the session ends with what was asked for
abbrev pub is_last : Asked → Bool
is_last (something quit) = true
is_last asked = false

-- words are answered: nothing where there are none, and else by what they ask for behind the id
abbrev pub AnswersWords : EngineLimits → Option Files → List (List ℕ) → Fate → Table → List ℕ → Table → Bool → Type 0
AnswersWords limits files [] fate t reply u last = (fate ≡ no_load) × (reply ≡ []) × (u ≡ t) × (last ≡ false)
AnswersWords limits files (word ∷ words) fate t reply u last = (id : List ℕ) × (rest : List (List ℕ)) × (asked : Asked) × (said : Said)
    × HasId (word ∷ words) id rest × Asks rest asked × Meets limits files asked fate t said u × (reply ≡ reply_text id said) × (last ≡ is_last asked)

-- a line is answered by its words
abbrev pub AnswersLine : EngineLimits → Option Files → Answers Table
AnswersLine limits files line fate t reply u last = (words : List (List ℕ)) × AreWords (cleaned line) words × AnswersWords limits files words fate t reply u last

-- where a session begins: an empty board of 19 by 19 without a komi, and Black to move
abbrev pub first_table : Table
first_table = fresh 19 19 (pos 0)
