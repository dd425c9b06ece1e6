-- A board session: what each order does to the state, and what is replied to a line.
use Rattle.std.specs.Prelude.{Bool, true, false, ◌≡◌, ◌⊎◌, ◌∷◌, ℕ, List, [], codes, Option}
use Rattle.board_words.specs.Words.{colour_word}
use Rattle.go_grid.specs.declared.grid.Colour.{Colour}
use Rattle.std.specs.Str.{IsUtf8}
use Rattle.desk_io.specs.Files.{Files, told_file}
use Rattle.sgf_go.specs.declared.settings.Settings.{Settings}
use Rattle.go_play.specs.Setup.{Setup}
use Rattle.endgame_solver.specs.Limits.{Limits}
use Rattle.gtp_words.specs.Files.{GivesNone, GivesSetup, load_settings}
use Rattle.gtp_words.specs.Loads.{Fate}
use Rattle.gtp_words.specs.Loads.Fate.{failed, made, no_load}
use Rattle.gtp_words.specs.Sessions.{Answers}
use Rattle.gtp_words.specs.Words.{AreWords, HasId, cleaned}
use Rattle.board_session.specs.declared.limits.BoardLimits.{BoardLimits}
use Rattle.board_orders.specs.declared.refusal.Refusal.TheVariants.{UnknownCommand, SyntaxError, CannotLoadFile}
use Rattle.board_orders.specs.declared.topic.Analysis.{Analysis}
use Rattle.board_session.specs.Analysing.{Finding, Finds, found, gameless, scoreless}
use Rattle.board_session.specs.Cycles.{TellsIn}
use Rattle.board_session.specs.Generating.{Advice, Follows, board_move, chosen, resigned, unopened}
use Rattle.board_orders.specs.Effects.{Said, Does, RefusesWith, done, reply_text, unscored, unsolved}
use Rattle.board_orders.specs.Orders.{BoardOrder, Asked, Asks}
use Rattle.board_orders.specs.Orders.BoardOrder.{genmove, reg_genmove, analyse, loadsgf, quit}
use Rattle.board_orders.specs.Orders.Asked.{something, unknown, misfit}
use Rattle.board_orders.specs.States.{BoardState, of_setup, present}
use Rattle.board_orders.specs.Texts.{move_text}

-- what is said to a colour that asks for a move, on a board of the size
abbrev pub advice_said : ℕ → ℕ → Advice → Said
advice_said columns rows (chosen m) = done (move_text columns rows (board_move m))
advice_said columns rows resigned = done (codes "resign")
advice_said columns rows (unopened words) = unsolved words

-- what is said on what an analysis finds
abbrev pub finding_said : Finding → Said
finding_said (found text) = done text
finding_said (gameless words) = unsolved words
finding_said (scoreless words) = unscored words

-- the engine's move, with cycles admitted or without, is said and made, if there is one
abbrev pub Generates : Bool → Limits → Colour → BoardState → Said → BoardState → Type 0
Generates cycles limits c s said u = (a : Advice) × TellsIn cycles limits s c a × (said ≡ advice_said (present s).board.columns (present s).board.rows a) × Follows c a s u

-- the engine's move is said, if there is one
abbrev pub Suggests : Bool → Limits → Colour → BoardState → Said → Type 0
Suggests cycles limits c s said = (a : Advice) × TellsIn cycles limits s c a × (said ≡ advice_said (present s).board.columns (present s).board.rows a)

-- what the analysis finds, with cycles admitted or without, is said
abbrev pub Reports : Bool → Limits → Analysis → BoardState → Said → Type 0
Reports cycles limits x s said = (finding : Finding) × Finds cycles limits x s finding × (said ≡ finding_said finding)

-- the position of a file is taken up where it gives one, and the colour to move is said, as GNU Go does; a name that isn't UTF-8 isn't asked
-- for
abbrev pub TakesFile : Settings → Option Files → List ℕ → Fate → BoardState → Said → BoardState → Type 0
TakesFile settings files file no_load s said u = (¬ IsUtf8 file) × RefusesWith CannotLoadFile s said u
TakesFile settings files file made s said u = IsUtf8 file
    × (((setup : Setup) × GivesSetup (told_file files file) settings setup × (said ≡ done (colour_word setup.side)) × (u ≡ of_setup setup))
    ⊎ (GivesNone (told_file files file) settings × RefusesWith CannotLoadFile s said u))
TakesFile settings files file failed s said u = IsUtf8 file × RefusesWith CannotLoadFile s said u

-- what an order does, by what becomes of its load
abbrev pub Obeys : BoardLimits → Option Files → BoardOrder → Fate → BoardState → Said → BoardState → Type 0
Obeys limits files (loadsgf file after) fate s said u = TakesFile (load_settings limits.territory after) files file fate s said u
Obeys limits files (genmove c) fate s said u = (fate ≡ no_load) × Generates limits.cycles limits.game c s said u
Obeys limits files (reg_genmove c) fate s said u = (fate ≡ no_load) × Suggests limits.cycles limits.game c s said × (u ≡ s)
Obeys limits files (analyse x) fate s said u = (fate ≡ no_load) × Reports limits.cycles limits.game x s said × (u ≡ s)
Obeys limits files order fate s said u = (fate ≡ no_load) × Does order s said u

-- what is done on what the words ask for
abbrev pub Meets : BoardLimits → Option Files → Asked → Fate → BoardState → Said → BoardState → Type 0
Meets limits files (something order) fate s said u = Obeys limits files order fate s said u
Meets limits files unknown fate s said u = (fate ≡ no_load) × RefusesWith UnknownCommand s said u
Meets limits files misfit fate s said u = (fate ≡ no_load) × RefusesWith SyntaxError s said u

-- whether the session ends with what was asked for
abbrev pub is_last : Asked → Bool
is_last (something quit) = true
is_last asked = false

-- words are answered: nothing where there are none, and else by what they ask for behind the id
abbrev pub AnswersWords : BoardLimits → Option Files → List (List ℕ) → Fate → BoardState → List ℕ → BoardState → Bool → Type 0
AnswersWords limits files [] fate s reply u last = (fate ≡ no_load) × (reply ≡ []) × (u ≡ s) × (last ≡ false)
AnswersWords limits files (word ∷ words) fate s reply u last = (id : List ℕ) × (rest : List (List ℕ)) × (asked : Asked) × (said : Said)
    × HasId (word ∷ words) id rest × Asks rest asked × Meets limits files asked fate s said u × (reply ≡ reply_text id said) × (last ≡ is_last asked)

-- a line is answered by its words
abbrev pub AnswersLine : BoardLimits → Option Files → Answers BoardState
AnswersLine limits files line fate s reply u last = (words : List (List ℕ)) × AreWords (cleaned line) words × AnswersWords limits files words fate s reply u last
