-- Lists of lines in the order of a key, one for each number that is wanted.
use Rattle.std.specs.Prelude.{◌≡◌, ℕ, ◌<◌, List, Contains}
use Rattle.std.specs.List.{AllPairs}

-- `Is l`: the line is right; `Wanted k`: there is a line with this key
module _ (L : Type 0) (key : L → ℕ) (Is : L → Type 0) (Wanted : ℕ → Type 0) where
  -- right lines for exactly the keys below `n` that are wanted, in their order
  pub record ListsBelow (n : ℕ) (lines : List L) : Type 0 where
    pub each : (l : L) → Contains lines l → Is l × (key l < n)
    pub every : (k : ℕ) → k < n → Wanted k → (l : L) × Contains lines l × (key l ≡ k)
    pub ascending : AllPairs (λ l m. key l < key m) lines
