-- The steps of a question that needs regions.
use Rattle.std.proofs.Common.{ℕ, ◌≤◌, ◌+◌, List}
use Rattle.go_grid.specs.Region.{Region}
use Rattle.go_play.specs.Setup.{Setup}
use Rattle.gd_words.specs.declared.job.Question.{Question}
use Rattle.gd_words.specs.Task.{NeedsRegions}
use Rattle.region_cut.specs.Cut.{AreRegionsOfPlay}
use Rattle.endgame_solver.specs.Faults.{most_steps}
use Rattle.endgame_solver.specs.Limits.{Limits}
use Rattle.endgame_questions.specs.Question.{AreStepsFor}

-- the steps of a question that needs regions
pub needed_steps : (q : Question) (limits : Limits) (setup : Setup) (before now : ℕ) → NeedsRegions q
    → ((regions : List Region) → AreRegionsOfPlay setup.board regions → now ≤ before + most_steps limits regions) → AreStepsFor q limits setup before now
needed_steps q limits setup before now needs few = record { few = few; none = λ plain. absurd (plain needs) }
