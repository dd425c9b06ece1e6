-- What bounds the values of a job.
use Rattle.std.specs.Prelude.{◌≡◌, ◌≤◌, true, false, IfSome}
use Rattle.local_graph.specs.declared.graph.TheConstants.{MOST_POSITIONS}
use Rattle.gd_words.specs.declared.choice.TheConstants.{MOST_MOVES, MOST_PARTS}
use Rattle.sgf_go.specs.declared.settings.TheConstants.{MOST_PRISONERS}
use Rattle.sgf_go.specs.Komi.{IsInRange}
use Rattle.gd_words.specs.Job.{Job}

-- the values of a job are within the ranges that its options may have, and with a tax no points are declared
pub record IsInRanges (job : Job) : Type 0 where
  pub komi : IfSome job.settings.komi IsInRange
  pub after : IfSome job.settings.after (λ n. n ≤ MOST_MOVES)
  pub black_prisoners : job.settings.black_prisoners ≤ MOST_PRISONERS
  pub white_prisoners : job.settings.white_prisoners ≤ MOST_PRISONERS
  pub some_positions : 1 ≤ job.positions
  pub few_positions : job.positions ≤ MOST_POSITIONS
  pub some_parts : 1 ≤ job.parts
  pub few_parts : job.parts ≤ MOST_PARTS
  pub untaxed : job.tax ≡ true → job.settings.territory ≡ false
