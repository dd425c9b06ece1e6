-- What a value lacks or lists.
use Rattle.std.specs.Prelude.{◌≢◌, ℕ, ◌<◌, List, get_or}
use Rattle.sgf_go.specs.Values.{colon, IsInRectangle}

-- the point lies in a row, from one column to another
abbrev pub IsInRow : ℕ → ℕ → ℕ → ℕ → ℕ → Type 0
IsInRow columns row left right = IsInRectangle columns (record { left = left; right = right; top = row; bottom = row })

-- no `:` stands before a place
abbrev pub LacksColon : List ℕ → ℕ → Type 0
LacksColon text n = (k : ℕ) → k < n → get_or text k 0 ≢ colon
