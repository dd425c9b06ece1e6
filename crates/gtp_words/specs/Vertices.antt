-- Colours and points as words.
use Rattle.std.specs.Prelude.{◌≡◌, ◌⊎◌, ◌≤◌, ◌<◌, ◌+◌, ◌-◌, ◌/◌, ◌%◌, ℕ, List, ◌∷◌, codes, nat_lt, if◌then◌else◌}
use Rattle.std.specs.Char.{to_ascii_lowercase}
use Rattle.std.specs.Fmt.{decimal}
use Rattle.go_grid.specs.declared.grid.Colour.{Colour}
use Rattle.go_grid.specs.declared.grid.Colour.TheVariants.{Black, White}
use Rattle.gtp_words.specs.declared.vertices.Vertex.{Vertex}
use Rattle.gtp_words.specs.Words.{lowered}

-- the word of a colour, in either case
abbrev pub IsColour : List ℕ → Colour → Type 0
IsColour word Black = (lowered word ≡ codes "b") ⊎ (lowered word ≡ codes "black")
IsColour word White = (lowered word ≡ codes "w") ⊎ (lowered word ≡ codes "white")

-- the small letter of a column: `i` is left out
abbrev pub column_letter : ℕ → ℕ
column_letter column = if nat_lt column 8 then 97 + column else 98 + column

-- the word of a point: the letter of its column, in either case, and its row, counted from the bottom
pub record IsVertex (word : List ℕ) (v : Vertex) : Type 0 where
  pub letter : ℕ
  pub spelt : word ≡ letter ∷ decimal v.row
  pub either_case : to_ascii_lowercase letter ≡ column_letter v.column
  pub column : v.column < 25
  pub some_row : 1 ≤ v.row
  pub few_rows : v.row ≤ 25

-- the capital letter of a column: `I` is left out
abbrev pub capital : ℕ → ℕ
capital column = if nat_lt column 8 then 65 + column else 66 + column

-- the text of a point of a board of the size
abbrev pub vertex_text : ℕ → ℕ → ℕ → List ℕ
vertex_text columns rows p = capital (p % columns) ∷ decimal (rows - p / columns)
