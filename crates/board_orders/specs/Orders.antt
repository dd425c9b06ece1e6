-- What the words of a line ask for.
use Rattle.std.specs.Prelude.{◌≡◌, ◌≢◌, ◌≤◌, ℕ, zero, suc, ℤ, Option, Some, None, List, [], ◌∷◌, length, codes}
use Rattle.board_words.specs.Numbers.{IsNumberWord}
use Rattle.go_grid.specs.declared.grid.Colour.{Colour}
use Rattle.go_grid.specs.declared.grid.Colour.TheVariants.{Black, White}
use Rattle.gtp_words.specs.Vertices.{IsColour}
use Rattle.sgf_go.specs.Komi.{IsKomi}
use Rattle.board_orders.specs.declared.command.BasicCommand.{BasicCommand}
use Rattle.board_orders.specs.declared.command.BasicCommand.TheVariants.{ProtocolVersion, Name, Version, KnownCommand, ListCommands, Quit, BoardSize, ClearBoard, Komi, Play, GenMove, RegGenMove, LoadSgf, Undo, ShowBoard, ListStones, Captures, MoveHistory, QueryBoardSize, GetKomi, GetHandicap, FixedHandicap, SetFreeHandicap, Level, TimeSettings, TimeLeft}
use Rattle.board_orders.specs.declared.command.AnalysisCommand.{AnalysisCommand}
use Rattle.board_orders.specs.declared.command.AnalysisCommand.TheVariants as analysis
use Rattle.board_orders.specs.declared.command.Command.{Command}
use Rattle.board_orders.specs.declared.command.Command.TheVariants.{Basic, Analyse}
use Rattle.board_orders.specs.declared.question.Question.{Question}
use Rattle.board_orders.specs.declared.question.Question.TheVariants as question
use Rattle.board_orders.specs.declared.topic.Analysis.{Analysis}
use Rattle.board_orders.specs.declared.topic.Analysis.TheVariants.{Game, Stones}
use Rattle.board_orders.specs.declared.topic.Status.{Status}
use Rattle.board_orders.specs.declared.topic.Status.TheVariants as status
use Rattle.board_orders.specs.declared.topic.Topic.TheVariants as topic
use Rattle.board_orders.specs.declared.wanted.Wanted.{Wanted}
use Rattle.board_orders.specs.Positions.{IsWanted}

-- a command with its arguments: `tell` is one that a text answers whatever the state, `ask` one that asks for a part of the state, `analyse`
-- one that the solver answers
pub data BoardOrder : Type 0 where
  tell : List ℕ → BoardOrder
  known : List ℕ → BoardOrder
  ask : Question → BoardOrder
  boardsize : ℕ → BoardOrder
  clear_board : BoardOrder
  komi : ℤ → BoardOrder
  play : Colour → Wanted → BoardOrder
  genmove : Colour → BoardOrder
  reg_genmove : Colour → BoardOrder
  analyse : Analysis → BoardOrder
  loadsgf : List ℕ → Option ℕ → BoardOrder
  undo : BoardOrder
  fixed_handicap : ℕ → BoardOrder
  free_handicap : List (List ℕ) → BoardOrder
  quit : BoardOrder

-- the name of a command that asks for no analysis
abbrev pub basic_word : BasicCommand → List ℕ
basic_word ProtocolVersion = codes "protocol_version"
basic_word Name = codes "name"
basic_word Version = codes "version"
basic_word KnownCommand = codes "known_command"
basic_word ListCommands = codes "list_commands"
basic_word Quit = codes "quit"
basic_word BoardSize = codes "boardsize"
basic_word ClearBoard = codes "clear_board"
basic_word Komi = codes "komi"
basic_word Play = codes "play"
basic_word GenMove = codes "genmove"
basic_word RegGenMove = codes "reg_genmove"
basic_word LoadSgf = codes "loadsgf"
basic_word Undo = codes "undo"
basic_word ShowBoard = codes "showboard"
basic_word ListStones = codes "list_stones"
basic_word Captures = codes "captures"
basic_word MoveHistory = codes "move_history"
basic_word QueryBoardSize = codes "query_boardsize"
basic_word GetKomi = codes "get_komi"
basic_word GetHandicap = codes "get_handicap"
basic_word FixedHandicap = codes "fixed_handicap"
basic_word SetFreeHandicap = codes "set_free_handicap"
basic_word Level = codes "level"
basic_word TimeSettings = codes "time_settings"
basic_word TimeLeft = codes "time_left"

-- the name of a command that asks for an analysis
abbrev pub analysis_word : AnalysisCommand → List ℕ
analysis_word analysis.TopMovesBlack = codes "top_moves_black"
analysis_word analysis.TopMovesWhite = codes "top_moves_white"
analysis_word analysis.FinalScore = codes "final_score"
analysis_word analysis.EstimateScore = codes "estimate_score"
analysis_word analysis.FinalStatusList = codes "final_status_list"
analysis_word analysis.Margin = codes "gdsolve-margin"
analysis_word analysis.Moves = codes "gdsolve-moves"
analysis_word analysis.Line = codes "gdsolve-line"
analysis_word analysis.AnalyzeCommands = codes "gogui-analyze_commands"

-- the name of a command
abbrev pub command_word : Command → List ℕ
command_word (Basic command) = basic_word command
command_word (Analyse command) = analysis_word command

-- the names of all commands, one a line
abbrev pub all_commands : List ℕ
all_commands = codes "protocol_version\nname\nversion\nknown_command\nlist_commands\nquit\nboardsize\nclear_board\nkomi\nplay\ngenmove\nreg_genmove\nloadsgf\nundo\nshowboard\nlist_stones\ncaptures\nmove_history\nquery_boardsize\nget_komi\nget_handicap\nfixed_handicap\nset_free_handicap\nlevel\ntime_settings\ntime_left\ntop_moves_black\ntop_moves_white\nfinal_score\nestimate_score\nfinal_status_list\ngdsolve-margin\ngdsolve-moves\ngdsolve-line\ngogui-analyze_commands"

-- the analyses that GoGui offers, a line each: the type of the reply, a label and the command
abbrev pub analyze_commands : List ℕ
analyze_commands = codes "pspairs/Best stones of Black/top_moves_black\npspairs/Best stones of White/top_moves_white\nstring/Margin/gdsolve-margin %c\nstring/Moves/gdsolve-moves %c\nstring/Line of play/gdsolve-line %c\nstring/Score/final_score\nplist/Stones that live/final_status_list alive\nplist/Stones that are dead/final_status_list dead"

-- the word of a status
abbrev pub status_word : Status → List ℕ
status_word status.Alive = codes "alive"
status_word status.Dead = codes "dead"
status_word status.Seki = codes "seki"

-- the order of a command without an argument
abbrev pub FitsAlone : BasicCommand → BoardOrder → Type 0
FitsAlone ProtocolVersion order = order ≡ tell (codes "2")
FitsAlone Name order = order ≡ tell (codes "gdsolve")
FitsAlone Version order = order ≡ tell (codes "1")
FitsAlone ListCommands order = order ≡ tell all_commands
FitsAlone Quit order = order ≡ quit
FitsAlone ClearBoard order = order ≡ clear_board
FitsAlone Undo order = order ≡ undo
FitsAlone ShowBoard order = order ≡ ask question.Board
FitsAlone MoveHistory order = order ≡ ask question.History
FitsAlone QueryBoardSize order = order ≡ ask question.Size
FitsAlone GetKomi order = order ≡ ask question.Komi
FitsAlone GetHandicap order = order ≡ ask question.Handicap
FitsAlone _ order = ⊥

-- the order of a command with one argument; the level and the number behind `undo` change nothing
abbrev pub FitsOne : BasicCommand → List ℕ → BoardOrder → Type 0
FitsOne KnownCommand word order = order ≡ known word
FitsOne BoardSize word order = (n : ℕ) × IsNumberWord word n × (order ≡ boardsize n)
FitsOne Komi word order = (halves : ℤ) × IsKomi word halves × (order ≡ komi halves)
FitsOne GenMove word order = (c : Colour) × IsColour word c × (order ≡ genmove c)
FitsOne RegGenMove word order = (c : Colour) × IsColour word c × (order ≡ reg_genmove c)
FitsOne ListStones word order = (c : Colour) × IsColour word c × (order ≡ ask (question.Stones c))
FitsOne Captures word order = (c : Colour) × IsColour word c × (order ≡ ask (question.Captures c))
FitsOne LoadSgf word order = order ≡ loadsgf word None
FitsOne FixedHandicap word order = (n : ℕ) × IsNumberWord word n × (order ≡ fixed_handicap n)
FitsOne Level word order = (n : ℕ) × IsNumberWord word n × (order ≡ tell [])
FitsOne Undo word order = (n : ℕ) × IsNumberWord word n × (order ≡ undo)
FitsOne _ word order = ⊥

-- how many moves come before the move of a number; all of the file's are replayed for 0
abbrev pub moves_before : ℕ → Option ℕ
moves_before zero = None
moves_before (suc n) = Some n

-- the order of a command with two arguments
abbrev pub FitsTwo : BasicCommand → List ℕ → List ℕ → BoardOrder → Type 0
FitsTwo Play first second order = (c : Colour) × (w : Wanted) × IsColour first c × IsWanted second w × (order ≡ play c w)
FitsTwo LoadSgf file word order = (n : ℕ) × IsNumberWord word n × (n ≤ 1000000) × (order ≡ loadsgf file (moves_before n))
FitsTwo _ first second order = ⊥

-- the order of a command on time, which changes nothing: three numbers, or a colour and two numbers
abbrev pub FitsThree : BasicCommand → List ℕ → List ℕ → List ℕ → BoardOrder → Type 0
FitsThree TimeSettings first second third order = (l m n : ℕ) × IsNumberWord first l × IsNumberWord second m × IsNumberWord third n × (order ≡ tell [])
FitsThree TimeLeft first second third order = (c : Colour) × (m n : ℕ) × IsColour first c × IsNumberWord second m × IsNumberWord third n × (order ≡ tell [])
FitsThree _ first second third order = ⊥

-- the order of a command with at most three arguments
abbrev pub FitsFew : BasicCommand → List (List ℕ) → BoardOrder → Type 0
FitsFew command [] order = FitsAlone command order
FitsFew command (word ∷ []) order = FitsOne command word order
FitsFew command (first ∷ second ∷ []) order = FitsTwo command first second order
FitsFew command (first ∷ second ∷ third ∷ []) order = FitsThree command first second third order
FitsFew command _ order = ⊥

-- the order of a command that asks for no analysis, with its arguments; free handicap stones are at least two
abbrev pub FitsBasic : BasicCommand → List (List ℕ) → BoardOrder → Type 0
FitsBasic SetFreeHandicap words order = (2 ≤ length words) × (order ≡ free_handicap words)
FitsBasic command words order = FitsFew command words order

-- the order of a command that asks for an analysis without an argument; a score is that with Black to move
abbrev pub AnalysesAlone : AnalysisCommand → BoardOrder → Type 0
AnalysesAlone analysis.TopMovesBlack order = order ≡ analyse (Game topic.Best Black)
AnalysesAlone analysis.TopMovesWhite order = order ≡ analyse (Game topic.Best White)
AnalysesAlone analysis.FinalScore order = order ≡ analyse (Game topic.Score Black)
AnalysesAlone analysis.EstimateScore order = order ≡ analyse (Game topic.Score Black)
AnalysesAlone analysis.AnalyzeCommands order = order ≡ tell analyze_commands
AnalysesAlone _ order = ⊥

-- the order of a command that asks for an analysis, with one argument
abbrev pub AnalysesOne : AnalysisCommand → List ℕ → BoardOrder → Type 0
AnalysesOne analysis.Margin word order = (c : Colour) × IsColour word c × (order ≡ analyse (Game topic.Margin c))
AnalysesOne analysis.Moves word order = (c : Colour) × IsColour word c × (order ≡ analyse (Game topic.Moves c))
AnalysesOne analysis.Line word order = (c : Colour) × IsColour word c × (order ≡ analyse (Game topic.Line c))
AnalysesOne analysis.FinalStatusList word order = (x : Status) × (word ≡ status_word x) × (order ≡ analyse (Stones x))
AnalysesOne _ word order = ⊥

-- the order of a command that asks for an analysis, with its arguments
abbrev pub FitsAnalysis : AnalysisCommand → List (List ℕ) → BoardOrder → Type 0
FitsAnalysis command [] order = AnalysesAlone command order
FitsAnalysis command (word ∷ []) order = AnalysesOne command word order
FitsAnalysis command _ order = ⊥

-- the order of a command with its arguments, which fit it
abbrev pub FitsArguments : Command → List (List ℕ) → BoardOrder → Type 0
FitsArguments (Basic command) words order = FitsBasic command words order
FitsArguments (Analyse command) words order = FitsAnalysis command words order

-- what the words ask for: something, or a command that isn't known, or one whose arguments don't fit
pub data Asked : Type 0 where
  something : BoardOrder → Asked
  unknown : Asked
  misfit : Asked

-- the words ask for this, by the name of the command that they begin with and its arguments
abbrev pub Asks : List (List ℕ) → Asked → Type 0
Asks words (something order) = (command : Command) × (rest : List (List ℕ)) × (words ≡ command_word command ∷ rest) × FitsArguments command rest order
Asks words unknown = (command : Command) (rest : List (List ℕ)) → words ≢ command_word command ∷ rest
Asks words misfit = (command : Command) × (rest : List (List ℕ)) × (words ≡ command_word command ∷ rest) × ((order : BoardOrder) → ¬ FitsArguments command rest order)
