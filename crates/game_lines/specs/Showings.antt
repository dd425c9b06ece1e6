-- What is shown of a game: its text, its stops and its thermograph.
use Rattle.std.specs.Prelude.{◌≡◌, ◌<◌, ◌⊎◌, ◌++◌, ℕ, List, length, codes}
use Rattle.short_games.specs.Tree.{Tree}
use Rattle.game_text.specs.NamedText.{named_text, named_depth}
use Rattle.thermograph.specs.PastBounds.{IsDrawnPastBounds}
use Rattle.board_words.specs.Words.{word_line}
use Rattle.game_lines.specs.Pictures.{Picture, IsPicture, picture_lines}
use Rattle.game_lines.specs.declared.showing.Showing.{Showing}
use Rattle.game_lines.specs.declared.showing.ShowError.{ShowError}
use Rattle.game_lines.specs.declared.showing.ShowError.TheVariants.{Form, Memory}

-- The game isn't shown: a break point of it or of one of its parts is past the bounds of numbers, its named text has
-- more than 65,536 bytes, or its braces nest more than 1,000 deep.
abbrev pub IsUnshown : Tree → Type 0
IsUnshown G = IsDrawnPastBounds G ⊎ ((65536 < length (named_text G)) ⊎ (1000 < named_depth G))

-- the stops and the thermograph that are shown
abbrev pub picture : Showing → Picture
picture s = record { left_stop = s.left_stop; right_stop = s.right_stop; thermograph = s.thermograph }

-- the text of the game, its stops and its thermograph
pub record IsShowing (G : Tree) (s : Showing) : Type 0 where
  pub text_is : s.text ≡ named_text G
  pub drawn : IsPicture G (picture s)
  pub shown : IsUnshown G → ⊥

-- the lines on a game with this text, behind a label, and with this picture
abbrev pub labelled_lines : List ℕ → List ℕ → Picture → List ℕ
labelled_lines label text drawn = word_line label text ++ picture_lines drawn

-- the lines on a game with this text, and with this picture
abbrev pub game_lines : List ℕ → Picture → List ℕ
game_lines = labelled_lines (codes "value")

-- why a game isn't shown
abbrev pub IsShowRefusal : Tree → ShowError → Type 0
IsShowRefusal G Form = IsUnshown G
IsShowRefusal G (Memory cause) = Unit {0}
