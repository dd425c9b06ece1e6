-- Names of points: a column letter and then a row letter, `a` for 0.
use Rattle.std.specs.Prelude.{◌≡◌, ℕ, ◌+◌, ◌*◌, ◌/◌, ◌%◌, ◌<◌, List, [], ◌∷◌}

-- a point's name on a board of so many columns: the letter of its column and then that of its row
abbrev pub point_name : ℕ → ℕ → List ℕ
point_name columns p = (97 + p % columns) ∷ (97 + p / columns) ∷ []

-- the letters name the point of a board of this size
pub record IsName (columns rows : ℕ) (letters : List ℕ) (p : ℕ) : Type 0 where
  pub on_board : p < columns * rows
  pub spelt : letters ≡ point_name columns p
