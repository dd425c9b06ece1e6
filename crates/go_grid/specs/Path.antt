-- Paths along a relation between places.
use Rattle.std.specs.Prelude.{◌≡◌, ℕ, List, [], ◌∷◌}

-- The list `p ∷ rest` is a path over places of `In`, each next to the one before, and ends in `q`.
abbrev pub Path : (ℕ → ℕ → Type 0) → (ℕ → Type 0) → ℕ → List ℕ → ℕ → Type 0
Path Next In p [] q = In p × (p ≡ q)
Path Next In p (r ∷ rest) q = In p × Next p r × Path Next In r rest q

-- some path over places of `In` leads from `p` to `q`
abbrev pub HasPath : (ℕ → ℕ → Type 0) → (ℕ → Type 0) → ℕ → ℕ → Type 0
HasPath Next In p q = (rest : List ℕ) × Path Next In p rest q
