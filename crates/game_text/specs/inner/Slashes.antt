-- Where a slash stands in the text of a number.
use Rattle.std.specs.Prelude.{ℕ, ◌≡◌, ◌<◌, List, length}
use Rattle.std.specs.List.{slice_index_or}

-- none of the first n bytes is a slash
abbrev pub HasNoSlash : List ℕ → ℕ → Type 0
HasNoSlash bytes n = (k : ℕ) → k < n → slice_index_or bytes k 0 ≡ 47 → ⊥

-- the place is that of the first slash of the bytes
pub record IsFirstSlash (bytes : List ℕ) (place : ℕ) : Type 0 where
  pub within : place < length bytes
  pub is : slice_index_or bytes place 0 ≡ 47
  pub first : HasNoSlash bytes place
