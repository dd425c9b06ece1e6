-- How a session that is begun answers.
use Rattle.std.proofs.Common.{ℕ, List, Bool, true, false, Err}
use Rattle.std.specs.Prelude.{Option}
use Rattle.desk_io.specs.Desk.{Input}
use Rattle.go_grid.specs.declared.grid.Colour.{Colour}
use Rattle.sgf_go.specs.declared.settings.Settings.{Settings}
use Rattle.go_play.specs.Setup.{Setup}
use Rattle.endgame_questions.specs.declared.terms.GameTerms.{GameTerms}
use Rattle.endgame_questions.specs.File.{told_of}
use Rattle.endgame_questions.specs.Found.{IsPositionOf}
use Rattle.endgame_run.specs.Game.{question_of_game}
use Rattle.endgame_run.specs.declared.question.Opened.{Opened}
use Rattle.endgame_run.specs.declared.question.Opened.TheVariants as opened
use Rattle.gd_words.specs.Task.{NeedsRegions}
use Rattle.endgame_run.specs.inner.Top.{IsBegun, IsOpened}
use Rattle.cycle_solver.specs.Begun.{Begun}
use Rattle.cycle_solver.specs.declared.faults.CycleError.{CycleError}
use Rattle.cycle_solver.specs.declared.faults.CycleError.TheVariants.{Points, Positions, Form, Captures, Memory}
use Rattle.cycle_solver.specs.declared.limits.TheConstants.{MOST_CAPTURES}
use Rattle.engine_player.specs.Played.{BeginsPlay}
use Rattle.endgame_questions.specs.Cycles.{most_captures}
use Rattle.endgame_questions.proofs.AnswerLaws.{position_answer}

-- a position that was begun, or refused, of a file
pub begun_opened : (terms : GameTerms) (cycles : Bool) (given : Option Colour) (settings : Settings) (word : List ℕ) (i j : Input) (setup : Setup) (opened : Opened)
    → IsPositionOf (told_of i word) settings setup → IsBegun terms cycles given setup opened → IsOpened terms cycles given settings word i j opened
begun_opened terms cycles given settings word i j setup (opened.Game session) p h = (record { setup = setup; position = p; settled = h.0; playable = h.1; colour = h.2 }, h.3)
begun_opened terms cycles given settings word i j setup (opened.Fault report) p r =
    (position_answer (question_of_game cycles) terms _ _ _ settings setup report.status report.text p r.0, r.1)

-- a game needs the regions
pub game_needs : (cycles : Bool) → NeedsRegions (question_of_game cycles)
game_needs false = tt
game_needs true = tt

-- what keeps a game from being begun keeps it from being played
pub fault_begun : (setup : Setup) (terms : GameTerms) (fault : CycleError) → BeginsPlay setup terms.tax terms.limits MOST_CAPTURES (Err fault) → Begun setup terms.tax terms.limits most_captures (Err fault)
fault_begun setup terms (Points p n) b = b
fault_begun setup terms (Positions p) b = b
fault_begun setup terms (Form p) b = b
fault_begun setup terms (Captures p) b = b
fault_begun setup terms (Memory m) b = tt
