-- The lines on the stops and the thermograph of a game. Numbers are in parts of 2 ^ -60.
use Rattle.std.specs.Prelude.{ℕ, ℤ, List, ◌++◌, codes, flat_map, Option, Some, None}
use Rattle.dyadic_num.specs.declared.TheConstants.{EXPONENT}
use Rattle.short_games.specs.Tree.{Tree}
use Rattle.short_games.specs.Number.{number_tree}
use Rattle.short_games.specs.Stops.{IsLeftStop, IsRightStop}
use Rattle.short_games.specs.TextOrder.{tree_text}
use Rattle.thermograph.specs.Thermographs.{breaks, IsFromZero}
use Rattle.thermograph.specs.declared.thermographs.Thermograph.{Thermograph}
use Rattle.thermograph.specs.Breaks.{wall_at}
use Rattle.thermograph.specs.Drawings.{AreBreaks, DrawWalls, IsTemperature, end_of}
use Rattle.board_words.specs.Words.{word_line}

-- the thermograph is that of G: its walls by their break points up to the temperature, the temperature, and the mean
pub record IsThermograph (G : Tree) (g : Thermograph) : Type 0 where
  pub walls : DrawWalls G (breaks g.left) (breaks g.right)
  pub is_temperature : IsTemperature G (wall_at (breaks g.left)) (wall_at (breaks g.right)) g.temperature g.mean
  pub left_breaks : IsFromZero g.left × AreBreaks (breaks g.left) (end_of g.temperature)
  pub right_breaks : IsFromZero g.right × AreBreaks (breaks g.right) (end_of g.temperature)

-- the stops of a game and its thermograph
pub record Picture : Type 0 where
  pub left_stop : ℤ
  pub right_stop : ℤ
  pub thermograph : Thermograph

-- the picture has the stops of G and its thermograph
pub record IsPicture (G : Tree) (p : Picture) : Type 0 where
  pub is_left_stop : IsLeftStop EXPONENT G p.left_stop
  pub is_right_stop : IsRightStop EXPONENT G p.right_stop
  pub drawn : IsThermograph G p.thermograph

-- the text of a number, in parts of 2 ^ -60
abbrev pub number : ℤ → List ℕ
number x = tree_text (number_tree x)

-- the line of the Left stop and the Right stop
unfoldable pub stops_line : ℤ → ℤ → List ℕ
stops_line l r = codes "stops " ++ (number l ++ (codes " " ++ (number r ++ codes "\n")))

-- the word for a temperature, `none` where there is none
abbrev pub temperature_word : Option ℤ → List ℕ
temperature_word None = codes "none"
temperature_word (Some t) = number t

-- a break point, behind a space
unfoldable pub break_point : ℤ × ℤ → List ℕ
break_point b = codes " " ++ (number b.0 ++ (codes ":" ++ number b.1))

-- the line of a wall: a label and the break points
unfoldable pub wall_line : List ℕ → List (ℤ × ℤ) → List ℕ
wall_line label wall = label ++ (flat_map break_point wall ++ codes "\n")

-- the lines of the stops, the mean, the temperature and the two walls
abbrev pub picture_lines : Picture → List ℕ
picture_lines p = stops_line p.left_stop p.right_stop ++ (word_line (codes "mean") (number p.thermograph.mean)
    ++ (word_line (codes "temperature") (temperature_word p.thermograph.temperature) ++ (wall_line (codes "left") p.thermograph.left ++ wall_line (codes "right") p.thermograph.right)))
