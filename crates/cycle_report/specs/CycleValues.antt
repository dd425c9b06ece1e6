-- The text of `values` where kos can arise: both values of each region's opening, as one where they are equal.
use Rattle.std.specs.Prelude.{◌≡◌, ◌≢◌, ◌<◌, ◌⊎◌, ◌++◌, [], ◌∷◌, ℕ, List, length, codes}
use Rattle.go_grid.specs.declared.grid.Colour.{Colour}
use Rattle.go_grid.specs.declared.grid.Colour.TheVariants.{Black, White}
use Rattle.go_grid.specs.Region.{Region}
use Rattle.region_cut.specs.Cut.{lowest}
use Rattle.short_games.specs.Tree.{Tree}
use Rattle.game_text.specs.NamedText.{named_text}
use Rattle.local_trees.specs.Steady.{IsBudgetValue, IsLeastSteady}
use Rattle.endgame_solver.specs.Regions.{region_at}
use Rattle.endgame_solver.specs.Solved.{IsNumberOfPositions}
use Rattle.game_lines.specs.Pictures.{Picture, IsPicture}
use Rattle.game_lines.specs.Showings.{IsUnshown, labelled_lines}
use Rattle.report.specs.Solution.{count_line, solved_line}

-- the tree is the value of the region's opening for the colour, with the least budget at which the region is steady for it
abbrev pub IsSteadyValue : Region → Colour → Tree → Type 0
IsSteadyValue r c G = (j : ℕ) × IsLeastSteady r.touch r.cells c j × IsBudgetValue r.touch c j r.cells G

-- both values of the region's opening can be shown
abbrev pub HasShownValues : Region → Type 0
HasShownValues r = (c : Colour) → (G : Tree) × IsSteadyValue r c G × (IsUnshown G → ⊥)

-- one of the values of the region's opening can't be shown
abbrev pub HasUnshownValues : Region → Type 0
HasUnshownValues r = (c : Colour) × ((G : Tree) × IsSteadyValue r c G × IsUnshown G)

-- the point is the lowest of the first region one of whose values isn't shown
pub record IsFirstCycleUnshown (regions : List Region) (p : ℕ) : Type 0 where
  pub place : ℕ
  pub inside : place < length regions
  pub lowest_point : p ≡ lowest (region_at regions place)
  pub unshown : HasUnshownValues (region_at regions place)
  pub shown : (j : ℕ) → j < place → HasShownValues (region_at regions j)

-- the lines on a game that can be shown, behind a label: its text, its stops and its thermograph
pub record AreLinesOf (label : List ℕ) (G : Tree) (text : List ℕ) : Type 0 where
  pub picture : Picture
  pub shown : IsUnshown G → ⊥
  pub drawn : IsPicture G picture
  pub is : text ≡ labelled_lines label (named_text G) picture

-- the lines on a lower and an upper value: on the one value where they are equal, and else on the lower and then on the upper one
abbrev pub AreLinesOfBoth : Tree → Tree → List ℕ → Type 0
AreLinesOfBoth low high text = ((low ≡ high) × AreLinesOf (codes "value") low text) ⊎ ((low ≢ high)
    × ((first second : List ℕ) × AreLinesOf (codes "low") low first × AreLinesOf (codes "high") high second × (text ≡ first ++ second)))

-- the lines of a region: of its points and positions, and of both values of its opening
pub record AreRegionLines (columns : ℕ) (r : Region) (text : List ℕ) : Type 0 where
  pub positions : ℕ
  pub low : Tree
  pub high : Tree
  pub values : List ℕ
  pub counted : IsNumberOfPositions r positions
  pub is_low : IsSteadyValue r Black low
  pub is_high : IsSteadyValue r White high
  pub are_values : AreLinesOfBoth low high values
  pub is : text ≡ solved_line columns (lowest r) (length r.points) positions ++ values

-- the lines of each region, in order
abbrev pub AreLinesOfEach : ℕ → List Region → List ℕ → Type 0
AreLinesOfEach columns [] text = text ≡ []
AreLinesOfEach columns (r ∷ regions) text = (first rest : List ℕ) × AreRegionLines columns r first × AreLinesOfEach columns regions rest × (text ≡ first ++ rest)

-- the text of `values` for the regions of play of a board with so many columns
pub record IsCycleValuesText (columns : ℕ) (regions : List Region) (text : List ℕ) : Type 0 where
  pub lines : List ℕ
  pub are : AreLinesOfEach columns regions lines
  pub is : text ≡ count_line (codes "regions") (length regions) ++ lines
