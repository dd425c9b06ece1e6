-- Texts on a state.
use Rattle.std.specs.Prelude.{Bool, true, false, ◌+◌, ◌*◌, ◌-◌, ◌++◌, ◌∷◌, ℕ, zero, suc, ℤ, List, [], codes, decimal, nat_lt, if◌then◌else◌}
use Rattle.board_words.specs.Komi.{komi_word}
use Rattle.board_words.specs.Words.{colour_word}
use Rattle.go_grid.specs.Board.{Board, cell_at}
use Rattle.go_grid.specs.declared.grid.Cell.{Cell}
use Rattle.go_grid.specs.declared.grid.Cell.TheVariants as cell
use Rattle.go_grid.specs.declared.grid.Colour.{Colour}
use Rattle.go_grid.specs.declared.grid.Colour.TheVariants as colour
use Rattle.gtp_words.specs.Vertices.{capital, vertex_text}
use Rattle.board_orders.specs.declared.position.BoardMove.{BoardMove}
use Rattle.board_orders.specs.declared.position.BoardMove.TheVariants.{Stone, Pass, Half}
use Rattle.board_orders.specs.declared.position.MadeMove.{MadeMove}
use Rattle.board_orders.specs.declared.position.Position.{Position}
use Rattle.board_orders.specs.Tallies.{Tally}

-- a part more behind a text, with the separator between two parts
unfoldable pub joined : List ℕ → List ℕ → List ℕ → List ℕ
joined sep [] part = part
joined sep (b ∷ text) part = (b ∷ text) ++ (sep ++ part)

-- whether a cell has a stone of the colour
abbrev pub has_colour : Colour → Cell → Bool
has_colour colour.Black cell.Black = true
has_colour colour.White cell.White = true
has_colour _ _ = false

-- the points below `p` with a stone of the colour, with blanks between them
unfoldable pub stones_below : Board → Colour → ℕ → List ℕ
stones_below g c zero = []
stones_below g c (suc p) = if has_colour c (cell_at g p) then joined (codes " ") (stones_below g c p) (vertex_text g.columns g.rows p) else stones_below g c p

-- points behind a text, with blanks between them
unfoldable pub vertices_behind : List ℕ → ℕ → ℕ → List ℕ → List ℕ
vertices_behind text columns rows [] = text
vertices_behind text columns rows (p ∷ points) = vertices_behind (joined (codes " ") text (vertex_text columns rows p)) columns rows points

-- points with blanks between them
abbrev pub vertices_text : ℕ → ℕ → List ℕ → List ℕ
vertices_text columns rows points = vertices_behind [] columns rows points

-- the text of a move: its point, or `PASS`, in capitals as GNU Go writes it, which a move on the half-point is to a client
abbrev pub move_text : ℕ → ℕ → BoardMove → List ℕ
move_text columns rows (Stone p) = vertex_text columns rows p
move_text columns rows Pass = codes "PASS"
move_text columns rows Half = codes "PASS"

-- the moves, the last one first, each on a line with its colour
unfoldable pub history_text : ℕ → ℕ → List MadeMove → List ℕ
history_text columns rows [] = []
history_text columns rows (m ∷ moves) =
    joined (codes "\n") (history_text columns rows moves) (colour_word m.colour ++ (codes " " ++ move_text columns rows m.chosen))

-- the mark of a cell
abbrev pub mark : Cell → List ℕ
mark cell.Empty = codes " ."
mark cell.Black = codes " X"
mark cell.White = codes " O"

-- the marks of a row, counted from the top, left of the column
unfoldable pub marks_below : Board → ℕ → ℕ → List ℕ
marks_below g row zero = []
marks_below g row (suc column) = marks_below g row column ++ mark (cell_at g (row * g.columns + column))

-- the letters of the columns left of the column
unfoldable pub letters_below : ℕ → List ℕ
letters_below zero = []
letters_below (suc column) = letters_below column ++ (codes " " ++ capital column ∷ [])

-- the line of the columns' letters
abbrev pub letters_line : ℕ → List ℕ
letters_line columns = codes "  " ++ (letters_below columns ++ codes "\n")

-- what a row's number lacks to two places
abbrev pub row_pad : ℕ → List ℕ
row_pad n = if nat_lt n 10 then codes " " else []

-- the line of a row, with its number at both ends
abbrev pub row_line : Board → ℕ → List ℕ
row_line g row = row_pad (g.rows - row) ++ (decimal (g.rows - row) ++ (marks_below g row g.columns ++ (codes " " ++ (decimal (g.rows - row) ++ codes "\n"))))

-- the lines of the rows above the row, from the top
unfoldable pub rows_above : Board → ℕ → List ℕ
rows_above g zero = []
rows_above g (suc row) = rows_above g row ++ row_line g row

-- a board, with the names of its columns and rows
abbrev pub board_text : Board → List ℕ
board_text g = letters_line g.columns ++ (rows_above g g.rows ++ letters_line g.columns)

-- the prisoners and the komi
unfoldable pub score_lines : Tally → ℤ → List ℕ
score_lines prisoners halves = codes "black prisoners " ++ (decimal prisoners.black ++ (codes "\nwhite prisoners " ++ (decimal prisoners.white ++ (codes "\nkomi " ++ komi_word halves))))

-- the board, the prisoners and the komi
abbrev pub position_text : Position → ℤ → List ℕ
position_text a halves = codes "\n" ++ (board_text a.board ++ score_lines a.prisoners halves)
