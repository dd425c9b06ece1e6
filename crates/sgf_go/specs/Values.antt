-- What the values of properties say: white space trimmed, points, rectangles and sizes.
use Rattle.std.specs.Prelude.{◌≡◌, ℕ, ◌/◌, ◌%◌, ◌≤◌, min, max, List, [], ◌∷◌, ◌++◌, Option, Some, None, if◌then◌else◌, reverse, get_or, length, take, drop}
use Rattle.std.specs.Str.Parse.{digits_value}
use Rattle.sgf_go.specs.Komi.{AreDigits}
use Rattle.sgf_tree.specs.Grammar.{is_white}
use Rattle.go_grid.specs.Name.{IsName}

-- the bytes without white space at the front
unfoldable pub trimmed_front : List ℕ → List ℕ
trimmed_front [] = []
trimmed_front (b ∷ bs) = if is_white b then trimmed_front bs else b ∷ bs

-- the bytes without white space at both ends
abbrev pub trimmed : List ℕ → List ℕ
trimmed bytes = reverse (trimmed_front (reverse (trimmed_front bytes)))

-- what a text says, or none where it says nothing of the kind
abbrev pub Says : {A : Type 0} → (A → Type 0) → Option A → Type 0
Says {A} Is None = (x : A) → ¬ Is x
Says Is (Some x) = Is x

-- a rectangle of points: its columns from left to right and its rows from top to bottom, ends included
pub record Rectangle : Type 0 where
  pub left : ℕ
  pub right : ℕ
  pub top : ℕ
  pub bottom : ℕ

-- the rectangle with two points as opposite corners
abbrev pub rectangle_between : ℕ → ℕ → ℕ → Rectangle
rectangle_between columns p q = record {
  left = min (p % columns) (q % columns);
  right = max (p % columns) (q % columns);
  top = min (p / columns) (q / columns);
  bottom = max (p / columns) (q / columns);
}

-- the byte `:`
abbrev pub colon : ℕ
colon = 58

-- the rectangle that a text says: that of one point, or of two corners with a `:` between them
pub data IsArea (columns rows : ℕ) (text : List ℕ) : Rectangle → Type 0 where
  point : (p : ℕ) → IsName columns rows text p → IsArea columns rows text (rectangle_between columns p p)
  corners : (p q : ℕ) → IsName columns rows (take 2 text) p → get_or text 2 0 ≡ colon → IsName columns rows (drop 3 text) q
      → IsArea columns rows text (rectangle_between columns p q)

-- the point lies in the rectangle
pub record IsInRectangle (columns : ℕ) (r : Rectangle) (p : ℕ) : Type 0 where
  pub left : r.left ≤ p % columns
  pub right : p % columns ≤ r.right
  pub top : r.top ≤ p / columns
  pub bottom : p / columns ≤ r.bottom

-- how many columns and rows a board has
pub record Extent : Type 0 where
  pub columns : ℕ
  pub rows : ℕ

-- the text is one or two digits, and `n` their number, which is from 1 to 25
pub record IsSide (text : List ℕ) (n : ℕ) : Type 0 where
  pub some : 1 ≤ length text
  pub few : length text ≤ 2
  pub digits : AreDigits text
  pub value : n ≡ digits_value 10 text
  pub least : 1 ≤ n
  pub most : n ≤ 25

-- the size that a text says: one number for columns and rows, or the columns and the rows with a `:` between them
pub data IsSize (text : List ℕ) : Extent → Type 0 where
  square : (n : ℕ) → IsSide text n → IsSize text (record { columns = n; rows = n })
  sides : (before behind : List ℕ) (columns rows : ℕ) → text ≡ before ++ (colon ∷ behind) → IsSide before columns → IsSide behind rows
      → IsSize text (record { columns = columns; rows = rows })
