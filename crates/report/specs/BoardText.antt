-- The text of `board`: a position as it is read.
use Rattle.std.specs.Prelude.{ℕ, zero, suc, ℤ, ◌+◌, ◌*◌, ◌++◌, List, [], Option, None, Some, codes, decimal}
use Rattle.go_grid.specs.declared.grid.Cell.{Cell}
use Rattle.go_grid.specs.declared.grid.Cell.TheVariants as cell
use Rattle.go_grid.specs.declared.grid.Colour.{Colour}
use Rattle.go_grid.specs.declared.grid.Colour.TheVariants.{Black, White}
use Rattle.go_grid.specs.Board.{Board, cell_at, declared_at}
use Rattle.board_words.specs.Words.{colour_word, word_line}
use Rattle.report.specs.Komi.{komi_line}

-- the letter of a cell: that of its stone, or that of the colour for which the empty point is declared
abbrev pub cell_word : Cell → Option Colour → List ℕ
cell_word cell.Black declared = codes "X"
cell_word cell.White declared = codes "O"
cell_word cell.Empty None = codes "."
cell_word cell.Empty (Some Black) = codes "b"
cell_word cell.Empty (Some White) = codes "w"

-- the letters of the first n cells of a row, from the left
unfoldable pub cells_text : Board → ℕ → ℕ → List ℕ
cells_text g row zero = []
cells_text g row (suc n) = cells_text g row n ++ cell_word (cell_at g (row * g.columns + n)) (declared_at g (row * g.columns + n))

-- the line of a row
abbrev pub row_line : Board → ℕ → List ℕ
row_line g row = codes "row " ++ (cells_text g row g.columns ++ codes "\n")

-- the lines of the first n rows, from the top
unfoldable pub rows_text : Board → ℕ → List ℕ
rows_text g zero = []
rows_text g (suc n) = rows_text g n ++ row_line g n

-- the line of the size of a board
unfoldable pub size_line : ℕ → ℕ → List ℕ
size_line columns rows = codes "size " ++ (decimal columns ++ (codes " " ++ (decimal rows ++ codes "\n")))

-- the line of the prisoners of a player
unfoldable pub prisoners_line : Colour → ℕ → List ℕ
prisoners_line c n = codes "prisoners " ++ (colour_word c ++ (codes " " ++ (decimal n ++ codes "\n")))

-- the lines above the rows: the size, the side to move, the komi and the prisoners of each player
abbrev pub head_lines : Board → Colour → ℤ → ℕ → ℕ → List ℕ
head_lines g side komi black white = size_line g.columns g.rows ++ (word_line (codes "side") (colour_word side) ++ (komi_line (codes "komi") komi
    ++ (prisoners_line Black black ++ prisoners_line White white)))

-- the text of `board` for a board with this side to move, a komi in half-points and the prisoners of each player
abbrev pub board_text : Board → Colour → ℤ → ℕ → ℕ → List ℕ
board_text g side komi black white = head_lines g side komi black white ++ rows_text g g.rows
