-- What the words of a line ask for.
use Rattle.std.specs.Prelude.{◌≡◌, ◌≢◌, ◌≤◌, ◌+◌, ℕ, ℤ, List, [], ◌∷◌, codes, Option, Some, None}
use Rattle.gtp_engine.specs.declared.request.TheConstants.{LAST_MOVE}
use Rattle.go_grid.specs.declared.grid.Colour.{Colour}
use Rattle.sgf_go.specs.Komi.{IsKomi}
use Rattle.gtp_engine.specs.declared.moves.Wanted.{Wanted}
use Rattle.gtp_engine.specs.declared.command.Command.{Command}
use Rattle.gtp_engine.specs.declared.command.Command.TheVariants.{ProtocolVersion, Name, Version, KnownCommand, ListCommands, BoardSize, ClearBoard, Komi, Play, GenMove, LoadSgf, Quit}
use Rattle.board_words.specs.Numbers.{IsNumberWord}
use Rattle.gtp_words.specs.Vertices.{IsColour}
use Rattle.gtp_engine.specs.Moves.{IsWanted}

-- a command with its arguments
pub data Order : Type 0 where
  protocol_version : Order
  name : Order
  version : Order
  known_command : List ℕ → Order
  list_commands : Order
  boardsize : ℕ → Order
  clear_board : Order
  komi : ℤ → Order
  play : Colour → Wanted → Order
  genmove : Colour → Order
  loadsgf : List ℕ → Option ℕ → Order
  quit : Order

-- the name of a command
abbrev pub command_word : Command → List ℕ
command_word ProtocolVersion = codes "protocol_version"
command_word Name = codes "name"
command_word Version = codes "version"
command_word KnownCommand = codes "known_command"
command_word ListCommands = codes "list_commands"
command_word BoardSize = codes "boardsize"
command_word ClearBoard = codes "clear_board"
command_word Komi = codes "komi"
command_word Play = codes "play"
command_word GenMove = codes "genmove"
command_word LoadSgf = codes "loadsgf"
command_word Quit = codes "quit"

-- the order of a command without an argument
abbrev pub FitsAlone : Command → Order → Type 0
FitsAlone ProtocolVersion order = order ≡ protocol_version
FitsAlone Name order = order ≡ name
FitsAlone Version order = order ≡ version
FitsAlone ListCommands order = order ≡ list_commands
FitsAlone ClearBoard order = order ≡ clear_board
FitsAlone Quit order = order ≡ quit
FitsAlone _ order = ⊥

-- the order of a command with one argument
abbrev pub FitsOne : Command → List ℕ → Order → Type 0
FitsOne KnownCommand word order = order ≡ known_command word
FitsOne BoardSize word order = (n : ℕ) × IsNumberWord word n × (order ≡ boardsize n)
FitsOne Komi word order = (halves : ℤ) × IsKomi word halves × (order ≡ komi halves)
FitsOne GenMove word order = (c : Colour) × IsColour word c × (order ≡ genmove c)
FitsOne LoadSgf word order = order ≡ loadsgf word None
FitsOne _ word order = ⊥

-- the order of a command with two arguments; the number of a file's move is from 1 to 1,000,000, and one less moves are replayed
abbrev pub FitsTwo : Command → List ℕ → List ℕ → Order → Type 0
FitsTwo Play first second order = (c : Colour) × (wanted : Wanted) × IsColour first c × IsWanted second wanted × (order ≡ play c wanted)
FitsTwo LoadSgf first second order = (moves : ℕ) × IsNumberWord second (moves + 1) × (moves + 1 ≤ LAST_MOVE) × (order ≡ loadsgf first (Some moves))
FitsTwo _ first second order = ⊥

-- the order of a command with its arguments, which fit it
abbrev pub FitsArguments : Command → List (List ℕ) → Order → Type 0
FitsArguments command [] order = FitsAlone command order
FitsArguments command (word ∷ []) order = FitsOne command word order
FitsArguments command (first ∷ second ∷ []) order = FitsTwo command first second order
FitsArguments command _ order = ⊥

-- what the words ask for: something, or a command that isn't known, or one whose arguments don't fit
pub data Asked : Type 0 where
  something : Order → Asked
  unknown : Asked
  misfit : Asked

-- the words ask for this, by the name of the command that they begin with and its arguments
abbrev pub Asks : List (List ℕ) → Asked → Type 0
Asks words (something order) = (command : Command) × (rest : List (List ℕ)) × (words ≡ command_word command ∷ rest) × FitsArguments command rest order
Asks words unknown = (command : Command) (rest : List (List ℕ)) → words ≢ command_word command ∷ rest
Asks words misfit = (command : Command) × (rest : List (List ℕ)) × (words ≡ command_word command ∷ rest) × ((order : Order) → ¬ FitsArguments command rest order)
