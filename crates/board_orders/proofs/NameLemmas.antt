-- The names of commands are texts.
use Rattle.std.specs.Prelude.{IfNone}
use Rattle.std.proofs.Common.{◌≡◌, ℕ, refl, sym, subst, List, Option, Some, None}
use lib.Utf8.{encode}
use Rattle.std.specs.Str.{IsUtf8, is_utf8, chars}
use Rattle.std.proofs.lemmas.Str.{IsUtf8-from_is_utf8}
use Rattle.board_orders.specs.declared.command.AnalysisCommand.{AnalysisCommand}
use Rattle.board_orders.specs.declared.command.AnalysisCommand.TheVariants as analysis
use Rattle.board_orders.specs.declared.command.BasicCommand.{BasicCommand}
use Rattle.board_orders.specs.declared.command.BasicCommand.TheVariants.{ProtocolVersion, Name, Version, KnownCommand, ListCommands, Quit, BoardSize, ClearBoard, Komi, Play, GenMove, RegGenMove, LoadSgf, Undo, ShowBoard, ListStones, Captures, MoveHistory, QueryBoardSize, GetKomi, GetHandicap, FixedHandicap, SetFreeHandicap, Level, TimeSettings, TimeLeft}
use Rattle.board_orders.specs.declared.command.Command.{Command}
use Rattle.board_orders.specs.declared.command.Command.TheVariants.{Basic, Analyse}
use Rattle.board_orders.specs.Orders.{analysis_word, basic_word, command_word}

basic_text : (c : BasicCommand) → IsUtf8 (basic_word c)
unfolding is_utf8 chars encode
basic_text ProtocolVersion = IsUtf8-from_is_utf8 (basic_word ProtocolVersion) refl
basic_text Name = IsUtf8-from_is_utf8 (basic_word Name) refl
basic_text Version = IsUtf8-from_is_utf8 (basic_word Version) refl
basic_text KnownCommand = IsUtf8-from_is_utf8 (basic_word KnownCommand) refl
basic_text ListCommands = IsUtf8-from_is_utf8 (basic_word ListCommands) refl
basic_text Quit = IsUtf8-from_is_utf8 (basic_word Quit) refl
basic_text BoardSize = IsUtf8-from_is_utf8 (basic_word BoardSize) refl
basic_text ClearBoard = IsUtf8-from_is_utf8 (basic_word ClearBoard) refl
basic_text Komi = IsUtf8-from_is_utf8 (basic_word Komi) refl
basic_text Play = IsUtf8-from_is_utf8 (basic_word Play) refl
basic_text GenMove = IsUtf8-from_is_utf8 (basic_word GenMove) refl
basic_text RegGenMove = IsUtf8-from_is_utf8 (basic_word RegGenMove) refl
basic_text LoadSgf = IsUtf8-from_is_utf8 (basic_word LoadSgf) refl
basic_text Undo = IsUtf8-from_is_utf8 (basic_word Undo) refl
basic_text ShowBoard = IsUtf8-from_is_utf8 (basic_word ShowBoard) refl
basic_text ListStones = IsUtf8-from_is_utf8 (basic_word ListStones) refl
basic_text Captures = IsUtf8-from_is_utf8 (basic_word Captures) refl
basic_text MoveHistory = IsUtf8-from_is_utf8 (basic_word MoveHistory) refl
basic_text QueryBoardSize = IsUtf8-from_is_utf8 (basic_word QueryBoardSize) refl
basic_text GetKomi = IsUtf8-from_is_utf8 (basic_word GetKomi) refl
basic_text GetHandicap = IsUtf8-from_is_utf8 (basic_word GetHandicap) refl
basic_text FixedHandicap = IsUtf8-from_is_utf8 (basic_word FixedHandicap) refl
basic_text SetFreeHandicap = IsUtf8-from_is_utf8 (basic_word SetFreeHandicap) refl
basic_text Level = IsUtf8-from_is_utf8 (basic_word Level) refl
basic_text TimeSettings = IsUtf8-from_is_utf8 (basic_word TimeSettings) refl
basic_text TimeLeft = IsUtf8-from_is_utf8 (basic_word TimeLeft) refl

analysis_text : (c : AnalysisCommand) → IsUtf8 (analysis_word c)
unfolding is_utf8 chars encode
analysis_text analysis.TopMovesBlack = IsUtf8-from_is_utf8 (analysis_word analysis.TopMovesBlack) refl
analysis_text analysis.TopMovesWhite = IsUtf8-from_is_utf8 (analysis_word analysis.TopMovesWhite) refl
analysis_text analysis.FinalScore = IsUtf8-from_is_utf8 (analysis_word analysis.FinalScore) refl
analysis_text analysis.EstimateScore = IsUtf8-from_is_utf8 (analysis_word analysis.EstimateScore) refl
analysis_text analysis.FinalStatusList = IsUtf8-from_is_utf8 (analysis_word analysis.FinalStatusList) refl
analysis_text analysis.Margin = IsUtf8-from_is_utf8 (analysis_word analysis.Margin) refl
analysis_text analysis.Moves = IsUtf8-from_is_utf8 (analysis_word analysis.Moves) refl
analysis_text analysis.Line = IsUtf8-from_is_utf8 (analysis_word analysis.Line) refl
analysis_text analysis.AnalyzeCommands = IsUtf8-from_is_utf8 (analysis_word analysis.AnalyzeCommands) refl

known_text : (c : Command) → IsUtf8 (command_word c)
known_text (Basic c) = basic_text c
known_text (Analyse c) = analysis_text c

-- a word that is no text names no command
pub name_is_text : (word : List ℕ) (c : Command) → ¬ IsUtf8 word → word ≡ command_word c → ⊥
name_is_text word c no_text e = no_text (subst IsUtf8 (sym e) (known_text c))

-- nothing is read
pub at_none : {A : Type 0} (r : Option A) (P : Type 0) → r ≡ None → P → IfNone r P
at_none None P e p = p
at_none (Some x) P e p = cc
