-- Lines out of a source that is read in pieces.
use Rattle.std.specs.Prelude.{◌≡◌, ◌≢◌, ◌⊎◌, ℕ, ◌+◌, ◌*◌, ◌<◌, ◌≤◌, List, [], ◌∷◌, ◌++◌, length, take, drop, All, Option, Some, None}
use Rattle.desk_io.specs.Outside.{ended}
use Rattle.desk_io.specs.declared.lines.FoundLine.{FoundLine}

-- where the line ends: at a line feed, which isn't part of it, or after the most bytes of a line, or with the input
abbrev pub IsCut : ℕ → List ℕ → List ℕ → List ℕ → Type 0
IsCut most bytes line rest =
    ((length line < most) × (bytes ≡ line ++ 10 ∷ rest))
    ⊎ (((length line ≡ most) × (bytes ≡ line ++ rest))
    ⊎ ((length line < most) × (bytes ≡ line) × (rest ≡ [])))

-- the line that the bytes begin with, and the bytes after it
pub record IsLine (most : ℕ) (bytes line rest : List ℕ) : Type 0 where
  pub plain : All (λ b. b ≢ 10) line
  pub cut : IsCut most bytes line rest

-- the bytes held, followed by those that the source has left, are the same before and after, where what is left is told
abbrev pub IsSameInput : List ℕ → Option (List ℕ) → List ℕ → Option (List ℕ) → Type 0
IsSameInput held before held' now = (bytes : List ℕ) → before ≡ Some bytes → (rest : List ℕ) × (now ≡ Some rest) × (held ++ bytes ≡ held' ++ rest)

-- of the bytes held and those left in the source no more were used than the lines between the two numbers can have, of at
-- most so many bytes each; the others are still held or left
abbrev pub UsesLines : ℕ → ℕ → ℕ → List ℕ → Option (List ℕ) → List ℕ → Option (List ℕ) → Type 0
UsesLines most from to held before held' now = (bytes : List ℕ) → before ≡ Some bytes
    → (used rest : List ℕ) × (now ≡ Some rest) × (held ++ bytes ≡ used ++ (held' ++ rest)) × (length used + most * from ≤ most * to)

-- the line that is held whole and how many bytes it takes with its line feed, or nothing where nothing is left
abbrev pub IsFound : ℕ → List ℕ → Option (List ℕ) → Option FoundLine → Type 0
IsFound most held left (Some f) = (f.line ≤ length held) × (f.taken ≤ length held) × (0 < length held)
    × ((rest : List ℕ) → left ≡ Some rest → IsLine most (held ++ rest) (take f.line held) (drop f.taken held ++ rest))
IsFound most held left None = (held ≡ []) × (left ≡ ended left)
