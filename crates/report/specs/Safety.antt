-- The text of `safe`: which chains are alive, what is counted, and what stays open to play.
use Rattle.std.specs.Prelude.{◌≡◌, ◌++◌, ◌+◌, ◌*◌, ◌≤◌, ℕ, List, length, codes, decimal, flat_map, sum_by}
use Rattle.go_grid.specs.declared.grid.Colour.{Colour}
use Rattle.go_grid.specs.declared.grid.Colour.TheVariants.{Black, White}
use Rattle.go_grid.specs.Board.{Board}
use Rattle.go_grid.specs.Marks.{Lists}
use Rattle.go_grid.specs.Region.{Region}
use Rattle.benson_life.specs.Groups.{IsNumberOfGroups}
use Rattle.benson_life.specs.Held.{worth}
use Rattle.benson_life.specs.Life.{InRegion, IsCounted}
use Rattle.region_cut.specs.Cut.{AreRegionsOfPlay, lowest}
use Rattle.report.specs.declared.chains.ChainLine.{ChainLine}
use Rattle.report.specs.declared.safety.CountedLine.{CountedLine}
use Rattle.report.specs.Chains.{AreChainLines, chain_lines}
use Rattle.go_grid.specs.Name.{point_name}
use Rattle.board_words.specs.Words.{colour_word}
use Rattle.report.specs.Listing.{ListsBelow}

-- the point is the lowest of a counted region of the colour
abbrev pub IsLowestCounted : Board → Colour → ℕ → Type 0
IsLowestCounted g c p = IsCounted g c p × ((q : ℕ) → InRegion g c p q → p ≤ q)

-- what is said of a counted region by its lowest point: how many points it has, and what they are worth
pub record IsCountedLine (g : Board) (l : CountedLine) : Type 0 where
  pub lowest : IsLowestCounted g l.colour l.lowest
  pub within : List ℕ
  pub lists : Lists within (InRegion g l.colour l.lowest)
  pub points : l.points ≡ length within
  pub held : l.held ≡ sum_by (worth g l.colour) within

-- the number of a colour in the order of lines: Black's come first
abbrev pub turn : Colour → ℕ
turn Black = 0
turn White = 1

-- the key of a counted region's line, which orders the lines by lowest point, and Black's first
abbrev pub counted_key : CountedLine → ℕ
counted_key l = 2 * l.lowest + turn l.colour

-- the key is that of a counted region, by its lowest point and its colour
abbrev pub IsCountedKey : Board → ℕ → Type 0
IsCountedKey g k = (c : Colour) × (p : ℕ) × (k ≡ 2 * p + turn c) × IsLowestCounted g c p

-- a line for each counted region whose key is below `n`, in the order of their keys
abbrev pub AreCountedBelow : Board → ℕ → List CountedLine → Type 0
AreCountedBelow g n ls = ListsBelow CountedLine counted_key (IsCountedLine g) (IsCountedKey g) n ls

-- a line for each counted region, by its lowest point
abbrev pub AreCountedLines : Board → List CountedLine → Type 0
AreCountedLines g ls = AreCountedBelow g (2 * length g.cells) ls

-- the line of a counted region: its lowest point, its colour, how many points it has, and what they are worth
unfoldable pub counted_line : ℕ → CountedLine → List ℕ
counted_line columns l = codes "counted " ++ (point_name columns l.lowest ++ (codes " " ++ (colour_word l.colour ++ (codes " points " ++ (decimal l.points ++ (codes " held " ++ (decimal l.held ++ codes "\n")))))))

-- the line of how many groups a colour has
unfoldable pub groups_line : Colour → ℕ → List ℕ
groups_line c n = codes "groups " ++ (colour_word c ++ (codes " " ++ (decimal n ++ codes "\n")))

-- the line of a region of play, by its lowest point and the number of its points
unfoldable pub sized_line : ℕ → ℕ → ℕ → List ℕ
sized_line columns p n = codes "region " ++ (point_name columns p ++ (codes " points " ++ (decimal n ++ codes "\n")))

-- the line of a region of play
abbrev pub region_line : ℕ → Region → List ℕ
region_line columns r = sized_line columns (lowest r) (length r.points)

-- A text of `safe` for a board: its chains, with an attack on each that is open, its counted regions, the numbers of groups and
-- its regions of play. Which attacks are written is free.
pub record IsSafeText (g : Board) (text : List ℕ) : Type 0 where
  pub chains : List ChainLine
  pub counted : List CountedLine
  pub black_groups : ℕ
  pub white_groups : ℕ
  pub regions : List Region
  pub are_chains : AreChainLines g chains
  pub are_counted : AreCountedLines g counted
  pub are_black : IsNumberOfGroups g Black black_groups
  pub are_white : IsNumberOfGroups g White white_groups
  pub are_regions : AreRegionsOfPlay g regions
  pub is : text ≡ flat_map (chain_lines g.columns) chains ++ (flat_map (counted_line g.columns) counted
      ++ ((groups_line Black black_groups ++ groups_line White white_groups) ++ flat_map (region_line g.columns) regions))
