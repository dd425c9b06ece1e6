-- The text of `values`: the value of each region's opening, with its stops and its thermograph.
use Rattle.std.specs.Prelude.{◌≡◌, ◌<◌, ⊤, ◌++◌, [], ◌∷◌, ℕ, List, length, flat_map, codes}
use Rattle.go_grid.specs.Region.{Region}
use Rattle.region_cut.specs.Cut.{lowest}
use Rattle.short_games.specs.Tree.{Tree}
use Rattle.game_text.specs.NamedText.{named_text}
use Rattle.local_trees.specs.PositionTree.{IsValueOf}
use Rattle.endgame_solver.specs.Regions.{region_at}
use Rattle.endgame_solver.specs.Solved.{IsNumberOfPositions}
use Rattle.report.specs.declared.values.ValuesError.{ValuesError}
use Rattle.report.specs.declared.values.ValuesError.TheVariants.{Form, Memory}
use Rattle.report.specs.Solution.{count_line, solved_line}
use Rattle.game_lines.specs.Pictures.{Picture, IsPicture}
use Rattle.game_lines.specs.Showings.{game_lines}
pub use Rattle.game_lines.specs.Showings.{IsUnshown}

-- the value of the region's opening can be shown
abbrev pub HasShownValue : Region → Type 0
HasShownValue r = (G : Tree) × IsValueOf r.touch r.cells G × (IsUnshown G → ⊥)

-- the value of the region's opening can't be shown
abbrev pub HasUnshownValue : Region → Type 0
HasUnshownValue r = (G : Tree) × IsValueOf r.touch r.cells G × IsUnshown G

-- the point is the lowest of the first region whose value isn't shown
pub record IsFirstUnshown (regions : List Region) (p : ℕ) : Type 0 where
  pub place : ℕ
  pub inside : place < length regions
  pub lowest_point : p ≡ lowest (region_at regions place)
  pub unshown : HasUnshownValue (region_at regions place)
  pub shown : (j : ℕ) → j < place → HasShownValue (region_at regions j)

-- what is shown of a region: how many positions are reachable, the value of its opening, and what is drawn of the value
pub record Entry : Type 0 where
  pub region : Region
  pub positions : ℕ
  pub value : Tree
  pub picture : Picture

-- the entry is right, and its value can be shown
pub record IsEntry (e : Entry) : Type 0 where
  pub counted : IsNumberOfPositions e.region e.positions
  pub is_value : IsValueOf e.region.touch e.region.cells e.value
  pub shown : IsUnshown e.value → ⊥
  pub drawn : IsPicture e.value e.picture

-- the lines of an entry: of the region with its points and positions, and of its value with what is drawn of it
abbrev pub entry_lines : ℕ → Entry → List ℕ
entry_lines columns e = solved_line columns (lowest e.region) (length e.region.points) e.positions ++ game_lines (named_text e.value) e.picture

-- a right entry for each region, in order
abbrev pub AreEntries : List Region → List Entry → Type 0
AreEntries [] [] = ⊤
AreEntries (r ∷ regions) (e ∷ entries) = (e.region ≡ r) × IsEntry e × AreEntries regions entries
AreEntries regions entries = ⊥

-- the text of `values` for the regions of play of a board with so many columns
pub record IsValuesText (columns : ℕ) (regions : List Region) (text : List ℕ) : Type 0 where
  pub entries : List Entry
  pub are : AreEntries regions entries
  pub is : text ≡ count_line (codes "regions") (length regions) ++ flat_map (entry_lines columns) entries

-- why there is no text of `values`: a value can't be shown, by its region's lowest point, or there is want of memory
abbrev pub IsRefusal : (ℕ → Type 0) → ValuesError → Type 0
IsRefusal Unshown (Form p) = Unshown p
IsRefusal Unshown (Memory cause) = Unit {0}
