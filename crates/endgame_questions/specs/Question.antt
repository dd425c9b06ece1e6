-- The commands that ask a question about the position of a file and write one text: what the status and the text are, by the file.
use Rattle.std.specs.Prelude.{◌≡◌, ◌⊎◌, ◌+◌, ◌≤◌, ℕ, List, codes, Ok, Err}
use Rattle.desk_io.specs.Desk.{Desk, Input, Outside, known}
use Rattle.desk_io.specs.Files.Told.{absent}
use Rattle.desk_io.specs.Files.{IsLonger, IsTold, Told}
use Rattle.desk_io.specs.Outside.{Rose, ended}
use Rattle.go_grid.specs.Region.{Region}
use Rattle.sgf_tree.specs.declared.reader.TheConstants.{MOST_BYTES}
use Rattle.sgf_go.specs.File.{HasFewBytes, Reads}
use Rattle.sgf_go.specs.declared.settings.Settings.{Settings}
use Rattle.go_play.specs.Setup.{Setup}
use Rattle.gd_words.specs.Task.{NeedsRegions}
use Rattle.gd_words.specs.declared.job.Question.{Question}
use Rattle.gd_words.specs.declared.job.Question.TheVariants.{Board, Line, Margin, Moves, Safe, Solve, Values, WithCycles}
use Rattle.region_cut.specs.Cut.{AreRegionsOfPlay}
use Rattle.endgame_solver.specs.Faults.{most_steps}
use Rattle.endgame_solver.specs.Limits.{Limits}
use Rattle.endgame_questions.specs.declared.terms.GameTerms.{GameTerms}
use Rattle.report.specs.BoardText.{board_text}
use Rattle.report.specs.Safety.{IsSafeText}
use Rattle.endgame_questions.specs.Analysis.{IsMargin, IsMoves, IsPlayLine}
use Rattle.endgame_questions.specs.Cycles.{IsCycleQuestionRefused, IsCycleText}
use Rattle.endgame_questions.specs.File.{ReadsFile, count_of, dash, told_of}
use Rattle.endgame_questions.specs.Position.{IsFaultText}
use Rattle.endgame_questions.specs.Refusal.{IsRefused}
use Rattle.endgame_questions.specs.Solution.{IsSolved}
use Rattle.endgame_questions.specs.Values.{AreUnshown, IsValued}
use Rattle.endgame_questions.specs.Written.{Reports}
use Rattle.endgame_questions.specs.declared.status.Status.{Status}
use Rattle.endgame_questions.specs.declared.status.Status.TheVariants.{BadFile, CannotRead, CaptureLimit, Cycle, Done, FormLimit, RegionLimit, TooLong}

-- the text that answers a question about a position, on these terms
abbrev pub IsTextOf : Question → GameTerms → Setup → List ℕ → Type 0
IsTextOf Solve terms setup text = IsSolved terms setup text
IsTextOf Values terms setup text = IsValued terms setup text
IsTextOf Margin terms setup text = IsMargin terms setup text
IsTextOf Moves terms setup text = IsMoves terms setup text
IsTextOf Line terms setup text = IsPlayLine terms setup text
IsTextOf (WithCycles asked) terms setup text = IsCycleText asked terms setup text
IsTextOf Safe terms setup text = IsSafeText setup.board text
IsTextOf Board terms setup text = text ≡ board_text setup.board setup.side setup.komi_halves setup.black_prisoners setup.white_prisoners

-- a question about a position that isn't answered, and its text
abbrev pub IsQuestionRefused : Question → GameTerms → Setup → Status → List ℕ → Type 0
IsQuestionRefused Safe terms setup s text = ⊥
IsQuestionRefused Board terms setup s text = ⊥
IsQuestionRefused (WithCycles asked) terms setup s text = IsCycleQuestionRefused asked terms setup s text
IsQuestionRefused Values terms setup s text = IsRefused terms setup s text ⊎ AreUnshown terms setup s text
IsQuestionRefused question terms setup s text = IsRefused terms setup s text

-- the status of a question about a position, and its text
abbrev pub IsPositionAnswer : Question → GameTerms → Setup → Status → List ℕ → Type 0
IsPositionAnswer question terms setup Done text = IsTextOf question terms setup text
IsPositionAnswer question terms setup Cycle text = IsQuestionRefused question terms setup Cycle text
IsPositionAnswer question terms setup RegionLimit text = IsQuestionRefused question terms setup RegionLimit text
IsPositionAnswer question terms setup FormLimit text = IsQuestionRefused question terms setup FormLimit text
IsPositionAnswer question terms setup CaptureLimit text = IsQuestionRefused question terms setup CaptureLimit text
IsPositionAnswer question terms setup s text = ⊥

-- The status of a question about a file that is not too long, and its text: no two of these statuses can hold at once.
abbrev pub IsFileAnswer : Question → GameTerms → List ℕ → Settings → Status → List ℕ → Type 0
IsFileAnswer question terms file settings (BadFile f) text = Reads file settings (Err f) × IsFaultText file f text
IsFileAnswer question terms file settings s text = (setup : Setup) × Reads file settings (Ok setup) × IsPositionAnswer question terms setup s text

-- The status by what is told of the file and by the counts of faults of the object that holds it, and its text.
abbrev pub IsVerdict : Question → GameTerms → Told → ℕ → ℕ → Settings → Status → List ℕ → Type 0
IsVerdict question terms told before now settings CannotRead text = ((told ≡ absent) ⊎ Rose before now) × (text ≡ codes "fault cannot read\n")
IsVerdict question terms told before now settings TooLong text = IsLonger MOST_BYTES told × (text ≡ codes "fault too long\n")
IsVerdict question terms told before now settings s text = (file : List ℕ) × IsTold told file × HasFewBytes file × IsFileAnswer question terms file settings s text

-- The status of a question about the file of a word, by what is known of the input before and after its reading, and its text.
abbrev pub IsAnswer : Question → GameTerms → Settings → List ℕ → Input → Input → Status → List ℕ → Type 0
IsAnswer question terms settings word i j s text = IsVerdict question terms (told_of i word) (count_of i word) (count_of j word) settings s text

-- how many steps a question about a position takes at most: for each of its regions of play the limit, or 3 to its points where that
-- is less; and none where it needs no regions
pub record AreStepsFor (question : Question) (limits : Limits) (setup : Setup) (before now : ℕ) : Type 0 where
  pub few : (regions : List Region) → AreRegionsOfPlay setup.board regions → now ≤ before + most_steps limits regions
  pub none : ¬ NeedsRegions question → now ≡ before

-- the steps of a question about a file: none, or those for the position of a file that has all that is told of it
abbrev pub AreToldSteps : Question → Limits → Told → Settings → ℕ → ℕ → Type 0
AreToldSteps question limits told settings before now = (now ≡ before)
    ⊎ ((file : List ℕ) × (setup : Setup) × IsTold told file × Reads file settings (Ok setup) × AreStepsFor question limits setup before now)

-- what the run of a question about the file of a word comes to
pub record AnswersQuestion {H S K : Type 0} (o : Outside H S K) (question : Question) (terms : GameTerms) (settings : Settings) (word : List ℕ) (a : Desk H S K) (status : Status) (b : Desk H S K)
    : Type 0 where
  pub written : Reports (IsAnswer question terms settings word (known o a).input (known o b).input)
      (o.sinks.faults a.out) (o.sinks.faults b.out) (o.sinks.holds a.out) (o.sinks.holds b.out) status
  pub reads : ReadsFile o.shelves o.sources word a.shelf a.lines b.shelf b.lines
  pub at_end : status ≡ Done → word ≡ dash → o.sources.left b.lines ≡ ended (o.sources.left a.lines)
