-- Local positions and local moves.
--
-- A local position is a list of cells, one for each place of a region. The touches of the region say which places are
-- linked, and next to which places an alive stone of a colour stands. Such stones never change and always have a liberty.
use Rattle.std.specs.Prelude.{◌≡◌, ℕ, ◌⊎◌, List, Bool, true, Some}
use Rattle.go_grid.specs.declared.grid.Cell.{Cell}
use Rattle.go_grid.specs.declared.grid.Colour.{Colour}
use Rattle.go_grid.specs.declared.grid.Colour.TheVariants as colour
use Rattle.go_grid.specs.declared.region.Touch.{Touch}
use Rattle.go_grid.specs.Region.{touch_at}
use Rattle.go_grid.specs.Play as play
pub use Rattle.go_grid.specs.Play.{held_at, Holds, with_stone, is_stone, IsNumberTaken}

-- the first place has a link to the second
abbrev pub IsLinked : List Touch → ℕ → ℕ → Type 0
IsLinked touch i j =
    ((touch_at touch i).up ≡ Some j) ⊎ (((touch_at touch i).left ≡ Some j) ⊎ (((touch_at touch i).right ≡ Some j) ⊎ ((touch_at touch i).down ≡ Some j)))

-- whether an alive stone of the colour is next to the place
abbrev pub is_beside : Touch → Colour → Bool
is_beside t colour.Black = t.black
is_beside t colour.White = t.white

-- an alive stone of the colour is next to the place
abbrev pub IsBeside : List Touch → Colour → ℕ → Type 0
IsBeside touch c i = is_beside (touch_at touch i) c ≡ true

-- `after` is the position after a stone of the colour at `p`
abbrev pub IsLocalMove : List Touch → List Cell → Colour → ℕ → List Cell → Type 0
IsLocalMove touch cells c p after = play.IsPlaced (IsLinked touch) (IsBeside touch) cells p c after
