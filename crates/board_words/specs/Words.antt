-- The words of colours, and lines of two words. Each line ends with a line feed.
use Rattle.std.specs.Prelude.{ℕ, List, ◌++◌, codes}
use Rattle.go_grid.specs.declared.grid.Colour.{Colour}
use Rattle.go_grid.specs.declared.grid.Colour.TheVariants.{Black, White}

-- the word of a colour
abbrev pub colour_word : Colour → List ℕ
colour_word Black = codes "black"
colour_word White = codes "white"

-- a line of two words
unfoldable pub word_line : List ℕ → List ℕ → List ℕ
word_line label word = label ++ (codes " " ++ (word ++ codes "\n"))

-- the line of the winner
abbrev pub winner_line : Colour → List ℕ
winner_line c = word_line (codes "winner") (colour_word c)
