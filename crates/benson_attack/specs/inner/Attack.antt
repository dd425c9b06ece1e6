-- What taking stones does to a set of points.
use Rattle.std.specs.Prelude.{◌≤◌, ℕ, List, length}
use Rattle.go_grid.specs.declared.grid.Colour.{Colour}
use Rattle.go_grid.specs.Board.{Board, HasStone, other}
use Rattle.go_play.specs.Place.{Placings}

-- legal placings of the colour, no more than the board has points, after which the point holds no stone of the other colour
abbrev pub Takes : Board → Colour → ℕ → List ℕ → Type 0
Takes g d s placings = (h : Board) × Placings d g placings h × (length placings ≤ length g.cells) × ¬ HasStone h (other d) s
