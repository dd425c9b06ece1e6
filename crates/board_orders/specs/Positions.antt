-- Positions of a board session, and what a move makes of one.
use Rattle.std.specs.Prelude.{◌≡◌, ◌+◌, ◌*◌, ◌-◌, ℕ, List, codes, Option, Some, None, Ok, Err, nat_lt, nat_le, ◌&&◌, if◌then◌else◌}
use Rattle.std.specs.Option.{option_map}
use Rattle.go_grid.specs.declared.grid.Colour.{Colour}
use Rattle.go_play.specs.declared.placements.PlaceError.{PlaceError}
use Rattle.go_play.specs.Place.{PlacesStone}
use Rattle.gtp_words.specs.declared.vertices.Vertex.{Vertex}
use Rattle.gtp_words.specs.Vertices.{IsVertex}
use Rattle.gtp_words.specs.Words.{lowered}
use Rattle.board_orders.specs.declared.position.BoardMove.{BoardMove}
use Rattle.board_orders.specs.declared.position.BoardMove.TheVariants.{Stone, Pass, Half}
use Rattle.board_orders.specs.declared.position.Position.{Position}
use Rattle.board_orders.specs.declared.wanted.Wanted.{Wanted}
use Rattle.board_orders.specs.declared.wanted.Wanted.TheVariants as wanted
use Rattle.board_orders.specs.Tallies.{grown}

-- a move leads from one position to another: a stone is placed, and what it takes are its colour's prisoners, or a pass is counted; a
-- move on the half-point changes the komi alone
abbrev pub MakesMove : Colour → BoardMove → Position → Position → Type 0
MakesMove c (Stone p) a b = (n : ℕ) × PlacesStone a.board p c b.board (Ok n) × (b.prisoners ≡ grown c n a.prisoners) × (b.passes ≡ a.passes)
MakesMove c Pass a b = (b.board ≡ a.board) × (b.prisoners ≡ a.prisoners) × (b.passes ≡ grown c 1 a.passes)
MakesMove c Half a b = b ≡ a

-- the stone may not be placed
abbrev pub IsIllegal : Colour → BoardMove → Position → Type 0
IsIllegal c (Stone p) a = (e : PlaceError) × PlacesStone a.board p c a.board (Err e)
IsIllegal c Pass a = ⊥
IsIllegal c Half a = ⊥

-- the word of a move: a point, or `pass` in either case
abbrev pub IsWanted : List ℕ → Wanted → Type 0
IsWanted word (wanted.At v) = IsVertex word v
IsWanted word wanted.Pass = lowered word ≡ codes "pass"

-- the number of a point, where it is on a board of the size
abbrev pub point_for : ℕ → ℕ → Vertex → Option ℕ
point_for columns rows v =
    if nat_lt v.column columns && (nat_le 1 v.row && nat_le v.row rows) then Some ((rows - v.row) * columns + v.column) else None

-- the move on a board of the size, where its point is on the board
abbrev pub move_for : ℕ → ℕ → Wanted → Option BoardMove
move_for columns rows (wanted.At v) = option_map Stone (point_for columns rows v)
move_for columns rows wanted.Pass = Some Pass
