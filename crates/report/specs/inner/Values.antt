-- What of the values has been written.
use Rattle.std.specs.Prelude.{◌≡◌, ◌++◌, ℕ, List, flat_map}
use Rattle.go_grid.specs.Region.{Region}
use Rattle.region_cut.specs.Cut.{lowest}
use Rattle.short_games.specs.Tree.{Tree, tree_at}
use Rattle.game_text.specs.NamedText.{named_text}
use Rattle.endgame_solver.specs.declared.solved.RegionReport.{RegionReport}
use Rattle.report.specs.Solution.{solved_line}
use Rattle.game_lines.specs.Pictures.{Picture, IsPicture}
use Rattle.game_lines.specs.Showings.{game_lines}
use Rattle.report.specs.Values.{Entry, entry_lines, AreEntries}
use Rattle.report.specs.Values.{IsUnshown}

-- behind the text stand the lines on the value with this report
pub record HasEntry (columns : ℕ) (Ts : List Tree) (report : RegionReport) (before now : List ℕ) : Type 0 where
  pub picture : Picture
  pub drawn : IsPicture (tree_at Ts report.value) picture
  pub shown : IsUnshown (tree_at Ts report.value) → ⊥
  pub lines : now ≡ before ++ (solved_line columns report.lowest report.points report.positions ++ game_lines (named_text (tree_at Ts report.value)) picture)

-- behind the text stand the lines of the regions
pub record HasEntries (columns : ℕ) (regions : List Region) (before now : List ℕ) : Type 0 where
  pub entries : List Entry
  pub are : AreEntries regions entries
  pub lines : now ≡ before ++ flat_map (entry_lines columns) entries
