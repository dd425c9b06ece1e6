-- Handicap stones.
use Rattle.std.specs.Prelude.{◌≡◌, ◌⊎◌, ◌≤◌, ◌+◌, ◌*◌, ◌-◌, ◌/◌, ◌%◌, ℕ, List, [], ◌∷◌, map, All, Some, None, Ok, Err, ◌==◌, nat_lt, if◌then◌else◌}
use Rattle.go_grid.specs.Board.{Board}
use Rattle.go_grid.specs.declared.grid.Cell.TheVariants as cell
use Rattle.go_grid.specs.declared.grid.Colour.TheVariants.{Black}
use Rattle.go_play.specs.declared.placements.PlaceError.{PlaceError}
use Rattle.go_play.specs.Place.{PlacesStone}
use Rattle.gtp_words.specs.declared.vertices.Vertex.{Vertex}
use Rattle.gtp_words.specs.Vertices.{IsVertex}
use Rattle.board_orders.specs.Positions.{point_for}

-- no stone stands on the board
abbrev pub IsBare : Board → Type 0
IsBare g = All (λ x. x ≡ cell.Empty) g.cells

-- the word names this point of a board of the size
abbrev pub NamesPoint : ℕ → ℕ → List ℕ → ℕ → Type 0
NamesPoint columns rows word p = (v : Vertex) × IsVertex word v × (point_for columns rows v ≡ Some p)

-- the word names no point, or one off a board of the size
abbrev pub IsAstray : ℕ → ℕ → List ℕ → Type 0
IsAstray columns rows word = ((v : Vertex) → ¬ IsVertex word v) ⊎ ((v : Vertex) × IsVertex word v × (point_for columns rows v ≡ None))

-- the words name these points, one after the other
abbrev pub NamePoints : ℕ → ℕ → List (List ℕ) → List ℕ → Type 0
NamePoints columns rows [] points = points ≡ []
NamePoints columns rows (word ∷ words) points = (p : ℕ) × (more : List ℕ) × (points ≡ p ∷ more) × NamesPoint columns rows word p × NamePoints columns rows words more

-- one of the words names no point of a board of the size
abbrev pub IsSomeAstray : ℕ → ℕ → List (List ℕ) → Type 0
IsSomeAstray columns rows [] = ⊥
IsSomeAstray columns rows (word ∷ words) = IsAstray columns rows word ⊎ IsSomeAstray columns rows words

-- Black stones are placed at the points, one after the other
abbrev pub PutsStones : Board → List ℕ → Board → Type 0
PutsStones g [] h = h ≡ g
PutsStones g (p ∷ points) h = (m : Board) × (n : ℕ) × PlacesStone g p Black m (Ok n) × PutsStones m points h

-- one of the stones may not be placed behind those before it
abbrev pub CannotPut : Board → List ℕ → Type 0
CannotPut g [] = ⊥
CannotPut g (p ∷ points) = ((e : PlaceError) × PlacesStone g p Black g (Err e))
    ⊎ ((m : Board) × (n : ℕ) × PlacesStone g p Black m (Ok n) × CannotPut m points)

-- the places of so many fixed stones, numbered row by row from the top left: three on each of three lines
abbrev pub places : ℕ → List ℕ
places n =
    if n == 2 then 6 ∷ 2 ∷ []
    else if n == 3 then 6 ∷ 2 ∷ 0 ∷ []
    else if n == 4 then 6 ∷ 2 ∷ 0 ∷ 8 ∷ []
    else if n == 5 then 6 ∷ 2 ∷ 0 ∷ 8 ∷ 4 ∷ []
    else if n == 6 then 6 ∷ 2 ∷ 0 ∷ 8 ∷ 3 ∷ 5 ∷ []
    else if n == 7 then 6 ∷ 2 ∷ 0 ∷ 8 ∷ 3 ∷ 5 ∷ 4 ∷ []
    else if n == 8 then 6 ∷ 2 ∷ 0 ∷ 8 ∷ 3 ∷ 5 ∷ 7 ∷ 1 ∷ []
    else 6 ∷ 2 ∷ 0 ∷ 8 ∷ 3 ∷ 5 ∷ 7 ∷ 1 ∷ 4 ∷ []

-- how far the outer lines lie from the edge
abbrev pub margin : ℕ → ℕ
margin n = if nat_lt n 13 then 2 else 3

-- the first, the middle or the last of three lines among so many
abbrev pub line_at : ℕ → ℕ → ℕ
line_at n k = if k == 0 then margin n else if k == 1 then n / 2 else n - 1 - margin n

-- the point of a place
abbrev pub place_point : ℕ → ℕ → ℕ → ℕ
place_point columns rows k = line_at rows (k / 3) * columns + line_at columns (k % 3)

-- the board has a middle line both ways, and room beside it
abbrev pub HasMiddle : ℕ → ℕ → Type 0
HasMiddle columns rows = (9 ≤ columns) × (9 ≤ rows) × (columns % 2 ≡ 1) × (rows % 2 ≡ 1)

-- the board has room for so many fixed stones: two to four from 7 by 7 on, up to nine where there are middle lines
abbrev pub HasPlaces : ℕ → ℕ → ℕ → Type 0
HasPlaces columns rows n = (7 ≤ columns) × (7 ≤ rows) × (2 ≤ n) × ((n ≤ 4) ⊎ ((n ≤ 9) × HasMiddle columns rows))

-- the points of so many fixed stones
abbrev pub fixed_points : ℕ → ℕ → ℕ → List ℕ
fixed_points columns rows n = map (place_point columns rows) (places n)
