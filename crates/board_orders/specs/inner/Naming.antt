-- The commands that ask for no analysis, in groups of which each is read alone.
use Rattle.std.specs.Prelude.{◌≢◌, ℕ, List, [], ◌∷◌}
use Rattle.board_orders.specs.declared.command.BasicCommand.{BasicCommand}
use Rattle.board_orders.specs.declared.command.BasicCommand.TheVariants.{ProtocolVersion, Name, Version, KnownCommand, ListCommands, Quit, BoardSize, ClearBoard, Komi, Play, GenMove, RegGenMove, LoadSgf, Undo, ShowBoard, ListStones, Captures, MoveHistory, QueryBoardSize, GetKomi, GetHandicap, FixedHandicap, SetFreeHandicap, Level, TimeSettings, TimeLeft}
use Rattle.board_orders.specs.Orders.{basic_word}

-- the word is the name of none of the commands
abbrev pub NamesNone : List ℕ → List BasicCommand → Type 0
NamesNone word [] = Unit {0}
NamesNone word (command ∷ rest) = (word ≢ basic_word command) × NamesNone word rest

-- the commands on the protocol and the engine
abbrev pub protocol_commands : List BasicCommand
protocol_commands = ProtocolVersion ∷ Name ∷ Version ∷ KnownCommand ∷ ListCommands ∷ Quit ∷ []

-- the commands that set up, play or take back
abbrev pub play_commands : List BasicCommand
play_commands = BoardSize ∷ ClearBoard ∷ Komi ∷ Play ∷ GenMove ∷ RegGenMove ∷ LoadSgf ∷ Undo ∷ []

-- the commands that ask for a part of the state
abbrev pub state_commands : List BasicCommand
state_commands = ShowBoard ∷ ListStones ∷ Captures ∷ MoveHistory ∷ QueryBoardSize ∷ GetKomi ∷ GetHandicap ∷ []

-- the commands on handicap stones, the level and time
abbrev pub setting_commands : List BasicCommand
setting_commands = FixedHandicap ∷ SetFreeHandicap ∷ Level ∷ TimeSettings ∷ TimeLeft ∷ []
