-- A komi that is asked for is in range.
use Rattle.std.proofs.Common.{◌≡◌, ◌≤◌, ◌+◌, ◌*◌, ℕ, ℤ, List, [], ◌∷◌, arith, sym, subst}
use Rattle.std.proofs.lemmas.Int.{ints}
use Rattle.sgf_go.specs.Komi.{IsHalves, halves, IsInRange, IsKomi, unsigned, positive, negative, IsKomiFraction, nothing, zeros, half}
use Rattle.sgf_go.specs.declared.komi.TheConstants.{MOST_KOMI}
use Rattle.board_orders.specs.declared.command.AnalysisCommand.{AnalysisCommand}
use Rattle.board_orders.specs.declared.command.AnalysisCommand.TheVariants as analysis
use Rattle.board_orders.specs.declared.command.BasicCommand.{BasicCommand}
use Rattle.board_orders.specs.declared.command.BasicCommand.TheVariants.{ProtocolVersion, Name, Version, KnownCommand, ListCommands, Quit, BoardSize, ClearBoard, Komi, Play, GenMove, RegGenMove, LoadSgf, Undo, ShowBoard, ListStones, Captures, MoveHistory, QueryBoardSize, GetKomi, GetHandicap, FixedHandicap, SetFreeHandicap, Level, TimeSettings, TimeLeft}
use Rattle.board_orders.specs.declared.command.Command.{Command}
use Rattle.board_orders.specs.declared.command.Command.TheVariants.{Basic, Analyse}
use Rattle.board_orders.specs.Doing.{AsksInRange, HasKomiInRange}
use Rattle.board_orders.specs.Orders.{AnalysesAlone, AnalysesOne, Asked, Asks, BoardOrder, FitsAlone, FitsArguments, FitsBasic, FitsFew, FitsOne, FitsThree, FitsTwo}
use Rattle.board_orders.specs.Orders.Asked.{something, unknown, misfit}

small_fraction : (bytes : List ℕ) (digits more : ℕ) → IsKomiFraction bytes digits more → more ≤ 1
small_fraction _ _ _ nothing = omega arith
small_fraction _ _ _ (zeros bytes z) = omega arith
small_fraction _ _ _ (half bytes z) = omega arith

small_halves : (bytes : List ℕ) (n : ℕ) → IsHalves bytes n → n ≤ 2 * MOST_KOMI + 1
small_halves _ _ (halves whole fraction digits more are most is some) = let small = small_fraction fraction digits more is in omega (arith, most, small)

komi_in_range : (text : List ℕ) (k : ℤ) → IsKomi text k → IsInRange k
komi_in_range _ _ (unsigned bytes n h) = let small = small_halves bytes n h in (omega (arith, ints, small), omega (arith, ints, small))
komi_in_range _ _ (positive bytes n h) = let small = small_halves bytes n h in (omega (arith, ints, small), omega (arith, ints, small))
komi_in_range _ _ (negative bytes n h) = let small = small_halves bytes n h in (omega (arith, ints, small), omega (arith, ints, small))

-- an order that is no komi
no_komi : (order other : BoardOrder) → HasKomiInRange other → order ≡ other → HasKomiInRange order
no_komi order other h e = subst HasKomiInRange (sym e) h

alone_in_range : (command : BasicCommand) (order : BoardOrder) → FitsAlone command order → HasKomiInRange order
alone_in_range ProtocolVersion order h = no_komi order _ tt h
alone_in_range Name order h = no_komi order _ tt h
alone_in_range Version order h = no_komi order _ tt h
alone_in_range ListCommands order h = no_komi order _ tt h
alone_in_range Quit order h = no_komi order _ tt h
alone_in_range ClearBoard order h = no_komi order _ tt h
alone_in_range Undo order h = no_komi order _ tt h
alone_in_range ShowBoard order h = no_komi order _ tt h
alone_in_range MoveHistory order h = no_komi order _ tt h
alone_in_range QueryBoardSize order h = no_komi order _ tt h
alone_in_range GetKomi order h = no_komi order _ tt h
alone_in_range GetHandicap order h = no_komi order _ tt h
alone_in_range _ order h = absurd h

one_in_range : (command : BasicCommand) (word : List ℕ) (order : BoardOrder) → FitsOne command word order → HasKomiInRange order
one_in_range KnownCommand word order h = no_komi order _ tt h
one_in_range BoardSize word order h = no_komi order _ tt h.2
one_in_range Komi word order h = no_komi order _ (komi_in_range word h.0 h.1) h.2
one_in_range GenMove word order h = no_komi order _ tt h.2
one_in_range RegGenMove word order h = no_komi order _ tt h.2
one_in_range LoadSgf word order h = no_komi order _ tt h
one_in_range Undo word order h = no_komi order _ tt h.2
one_in_range ListStones word order h = no_komi order _ tt h.2
one_in_range Captures word order h = no_komi order _ tt h.2
one_in_range FixedHandicap word order h = no_komi order _ tt h.2
one_in_range Level word order h = no_komi order _ tt h.2
one_in_range _ word order h = absurd h

two_in_range : (command : BasicCommand) (first : List ℕ) (second : List ℕ) (order : BoardOrder) → FitsTwo command first second order → HasKomiInRange order
two_in_range Play first second order h = no_komi order _ tt h.4
two_in_range LoadSgf first second order h = no_komi order _ tt h.3
two_in_range _ first second order h = absurd h

three_in_range : (command : BasicCommand) (first : List ℕ) (second : List ℕ) (third : List ℕ) (order : BoardOrder) → FitsThree command first second third order → HasKomiInRange order
three_in_range TimeSettings first second third order h = no_komi order _ tt h.6
three_in_range TimeLeft first second third order h = no_komi order _ tt h.6
three_in_range _ first second third order h = absurd h

analysis_in_range : (command : AnalysisCommand) (order : BoardOrder) → AnalysesAlone command order → HasKomiInRange order
analysis_in_range analysis.TopMovesBlack order h = no_komi order _ tt h
analysis_in_range analysis.TopMovesWhite order h = no_komi order _ tt h
analysis_in_range analysis.FinalScore order h = no_komi order _ tt h
analysis_in_range analysis.EstimateScore order h = no_komi order _ tt h
analysis_in_range analysis.AnalyzeCommands order h = no_komi order _ tt h
analysis_in_range _ order h = absurd h

analysis_one_in_range : (command : AnalysisCommand) (word : List ℕ) (order : BoardOrder) → AnalysesOne command word order → HasKomiInRange order
analysis_one_in_range analysis.FinalStatusList word order h = no_komi order _ tt h.2
analysis_one_in_range analysis.Margin word order h = no_komi order _ tt h.2
analysis_one_in_range analysis.Moves word order h = no_komi order _ tt h.2
analysis_one_in_range analysis.Line word order h = no_komi order _ tt h.2
analysis_one_in_range _ word order h = absurd h

few_in_range : (command : BasicCommand) (words : List (List ℕ)) (order : BoardOrder) → FitsFew command words order → HasKomiInRange order
few_in_range command [] order h = alone_in_range command order h
few_in_range command (word ∷ []) order h = one_in_range command word order h
few_in_range command (first ∷ second ∷ []) order h = two_in_range command first second order h
few_in_range command (first ∷ second ∷ third ∷ []) order h = three_in_range command first second third order h
few_in_range command _ order h = absurd h

basic_in_range : (command : BasicCommand) (words : List (List ℕ)) (order : BoardOrder) → FitsBasic command words order → HasKomiInRange order
basic_in_range SetFreeHandicap words order h = no_komi order _ tt h.1
basic_in_range command words order h = few_in_range command words order h

arguments_in_range : (command : Command) (words : List (List ℕ)) (order : BoardOrder) → FitsArguments command words order → HasKomiInRange order
arguments_in_range (Basic command) words order h = basic_in_range command words order h
arguments_in_range (Analyse command) [] order h = analysis_in_range command order h
arguments_in_range (Analyse command) (word ∷ []) order h = analysis_one_in_range command word order h
arguments_in_range (Analyse command) _ order h = absurd h

-- a komi that the words ask for is in range
pub asked_in_range : (words : List (List ℕ)) (asked : Asked) → Asks words asked → AsksInRange asked
asked_in_range words (something order) h = arguments_in_range h.0 h.1 order h.3
asked_in_range words unknown h = tt
asked_in_range words misfit h = tt
