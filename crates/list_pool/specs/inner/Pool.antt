-- How the lists of a pool lie in its chunks.
use Rattle.std.specs.Prelude.{ℕ, ◌+◌, ◌-◌, ◌<◌, ◌≤◌, ℤ, pos, negsuc, List, [], length, get_or, slice_range, All, if◌then◌else◌, nat_lt, nat_le}
use Rattle.list_pool.specs.Chunk.{Row}
use Rattle.list_pool.specs.declared.place.Place.{Place}

-- an empty row without room, which stands for one past the last
abbrev pub no_row : Row
no_row = record { items = []; room = 0 }

-- the numbers of the row in which a place lies
abbrev pub row_of : List Row → Place → List ℕ
row_of rows p = (get_or rows p.chunk no_row).items

-- the list that lies at a place
abbrev pub list_in : List Row → Place → List ℕ
list_in rows p = slice_range (row_of rows p) p.start (p.start + p.len)

-- a list lies at the place: it has a row that reaches to its end
abbrev pub LiesIn : List Row → Place → Type 0
LiesIn rows p = (p.chunk < length rows) × (p.start + p.len ≤ length (row_of rows p))

-- at each place of the table lies a list
abbrev pub AllLie : List Row → List Place → Type 0
AllLie rows table = All (LiesIn rows) table

-- how many numbers more a row has room for, or -1 where it has too many
abbrev pub left_of : Row → ℤ
left_of row = if nat_le (length row.items) row.room then pos (row.room - length row.items) else negsuc 0

-- how many numbers more the last row has room for, or -1 where there is none
unfoldable pub left_over : List Row → ℤ
left_over rows = if nat_lt 0 (length rows) then left_of (get_or rows (length rows - 1) no_row) else negsuc 0

-- how many numbers more the last row has room for, or -1 where there is none or the table of `used` places is full
unfoldable pub spare_in : List Row → ℕ → ℕ → ℤ
spare_in rows used capacity = if nat_lt used capacity then left_over rows else negsuc 0
