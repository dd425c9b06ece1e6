-- The reports on questions about a game that was begun.
use Rattle.std.specs.Prelude.{◌≡◌, ℕ, ℤ, List}
use Rattle.gd_words.specs.declared.job.CycleQuestion.{CycleQuestion}
use Rattle.gd_words.specs.declared.job.CycleQuestion.TheVariants as cycle
use Rattle.gd_words.specs.declared.job.Question.{Question}
use Rattle.gd_words.specs.declared.job.Question.TheVariants as question
use Rattle.endgame_solver.specs.Solved.{Solved}
use Rattle.fault_words.specs.declared.naming.Naming.TheVariants.{Letters}
use Rattle.report.specs.Analysis.{IsLineText, IsMarginText, IsMovesText, name_on}
use Rattle.cycle_report.specs.CycleValues.{IsCycleValuesText, IsFirstCycleUnshown}
use Rattle.report.specs.Solution.{IsSolveText}
use Rattle.report.specs.Values.{IsFirstUnshown, IsValuesText}
use Rattle.endgame_questions.specs.Cycles.{IsGameText}
use Rattle.endgame_questions.specs.Refusal.{form_line}
use Rattle.endgame_questions.specs.declared.status.Status.{Status}
use Rattle.endgame_questions.specs.declared.status.Status.TheVariants.{Done, FormLimit}

-- the report on the values of a solved game
abbrev pub IsValuesReport : Solved → Status → List ℕ → Type 0
IsValuesReport game Done text = IsValuesText game.state.board.columns game.regions text
IsValuesReport game FormLimit text = (p : ℕ) × IsFirstUnshown game.regions p × (text ≡ form_line game.state.board.columns p)
IsValuesReport game s text = ⊥

-- the report on a question about a solved game that opens with this komi in half-points
abbrev pub IsGameReport : Question → ℤ → Solved → Status → List ℕ → Type 0
IsGameReport question.Solve k game s text = (s ≡ Done) × IsSolveText game text
IsGameReport question.Margin k game s text = (s ≡ Done) × IsMarginText game.state k text
IsGameReport question.Moves k game s text = (s ≡ Done) × IsMovesText (name_on Letters game.state.board) game.state k text
IsGameReport question.Line k game s text = (s ≡ Done) × IsLineText (name_on Letters game.state.board) game.regions game.state k text
IsGameReport question.Values k game s text = IsValuesReport game s text
IsGameReport q k game s text = ⊥

-- the report on the values of a game with cycles
abbrev pub IsCycleValuesReport : Solved → Status → List ℕ → Type 0
IsCycleValuesReport game Done text = IsCycleValuesText game.state.board.columns game.regions text
IsCycleValuesReport game FormLimit text = (p : ℕ) × IsFirstCycleUnshown game.regions p × (text ≡ form_line game.state.board.columns p)
IsCycleValuesReport game s text = ⊥

-- the report on a question about a game with cycles that opens with this komi in half-points
abbrev pub IsCycleReport : CycleQuestion → ℤ → Solved → Status → List ℕ → Type 0
IsCycleReport cycle.Values k game s text = IsCycleValuesReport game s text
IsCycleReport q k game s text = (s ≡ Done) × IsGameText q k game text
