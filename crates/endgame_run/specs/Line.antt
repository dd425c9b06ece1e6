-- The one line of a text that begins with a word.
use Rattle.std.specs.Prelude.{◌≡◌, ◌⊎◌, ◌++◌, [], ℕ, List, codes}
use Rattle.play_session.specs.Laws.{IsLineIn}

-- the text is at the beginning of a line: it is empty, or ends with a line feed
abbrev pub StartsLine : List ℕ → Type 0
StartsLine front = (front ≡ []) ⊎ ((start : List ℕ) × (front ≡ start ++ codes "\n"))

-- the text has the line, which is whole, and no other line of it begins with the word
pub record HasOnlyLine (word line text : List ℕ) : Type 0 where
  pub front : List ℕ
  pub back : List ℕ
  pub stands : text ≡ front ++ (line ++ back)
  pub start : StartsLine front
  pub none_before : ¬ IsLineIn word front
  pub none_behind : ¬ IsLineIn word back
