-- Placing a stone on a list of cells. `Next p q` says that the place `q` is next to the place `p`, and `Free c p` that a stone of the
-- colour at `p` is free by itself, whatever the cells are.
use Rattle.std.specs.Prelude.{◌≡◌, ℕ, ◌+◌, ◌<◌, ◌⊎◌, List, Bool, true, false, length, slice_index_or, slice_set, count_by}
use Rattle.go_grid.specs.declared.grid.Cell.{Cell}
use Rattle.go_grid.specs.declared.grid.Cell.TheVariants as cell
use Rattle.go_grid.specs.declared.grid.Colour.{Colour}
use Rattle.go_grid.specs.Board.{stone, other}
use Rattle.go_grid.specs.Path.{HasPath}

-- what a place holds, which is nothing past the last
abbrev pub held_at : List Cell → ℕ → Cell
held_at cells p = slice_index_or cells p cell.Empty

-- the place holds a stone of the colour
abbrev pub Holds : List Cell → Colour → ℕ → Type 0
Holds cells c p = held_at cells p ≡ stone c

-- `q` is in the chain of `p`: a path over stones of the colour leads from `p` to `q`
abbrev pub InChain : (ℕ → ℕ → Type 0) → List Cell → Colour → ℕ → ℕ → Type 0
InChain Next cells c p q = HasPath Next (Holds cells c) p q

-- an empty place is next to the place
abbrev pub IsOpen : (ℕ → ℕ → Type 0) → List Cell → ℕ → Type 0
IsOpen Next cells p = (q : ℕ) × Next p q × (held_at cells q ≡ cell.Empty)

-- the chain of the place is free: an empty place is next to one of its stones, or one of them is free by itself
abbrev pub IsFree : (ℕ → ℕ → Type 0) → (Colour → ℕ → Type 0) → List Cell → Colour → ℕ → Type 0
IsFree Next Free cells c p = (q : ℕ) × InChain Next cells c p q × (IsOpen Next cells q ⊎ Free c q)

-- `q` is in a chain of the colour that is next to `p` and isn't free
abbrev pub IsTaken : (ℕ → ℕ → Type 0) → (Colour → ℕ → Type 0) → List Cell → ℕ → Colour → ℕ → Type 0
IsTaken Next Free cells p c q = (r : ℕ) × Next p r × InChain Next cells c r q × ¬ IsFree Next Free cells c r

-- the cells with a stone more
abbrev pub with_stone : List Cell → ℕ → Colour → List Cell
with_stone cells p c = slice_set cells p (stone c)

-- `after` is `cells` without the stones of `Gone`
pub record IsWithout (cells : List Cell) (Gone : ℕ → Type 0) (after : List Cell) : Type 0 where
  pub long : length after ≡ length cells
  pub gone : (q : ℕ) → Gone q → held_at after q ≡ cell.Empty
  pub kept : (q : ℕ) → ¬ Gone q → held_at after q ≡ held_at cells q

-- `after` is `cells` after a stone of the colour at the empty place `p`, without what that takes; then the chain of `p` is free
pub record IsPlaced (Next : ℕ → ℕ → Type 0) (Free : Colour → ℕ → Type 0) (cells : List Cell) (p : ℕ) (c : Colour)
    (after : List Cell) : Type 0 where
  pub place : p < length cells
  pub free : held_at cells p ≡ cell.Empty
  pub without : IsWithout (with_stone cells p c) (IsTaken Next Free (with_stone cells p c) p (other c)) after
  pub stands : IsFree Next Free after c p

-- the cell holds a stone, of either colour
abbrev pub is_stone : Cell → Bool
is_stone cell.Empty = false
is_stone cell.Black = true
is_stone cell.White = true

-- how many stones `after` lacks of `cells` with the new stone
abbrev pub IsNumberTaken : List Cell → List Cell → ℕ → Type 0
IsNumberTaken cells after n = count_by is_stone after + n ≡ count_by is_stone cells + 1
