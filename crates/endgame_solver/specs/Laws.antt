-- The decomposition law for a game of parts, whose positions are of any type.
use Rattle.std.specs.Prelude.{ℕ, List, Contains}
use Rattle.go_grid.specs.declared.grid.Colour.{Colour}
use Rattle.short_games.specs.Order.{◌≡ᵍ◌}
use Rattle.short_games.specs.Number.{num}
use Rattle.local_trees.specs.LocalGame.{Step}
use Rattle.endgame_solver.specs.SumGame.{State, AllEnd, EachPlayEnds, IsDecidedBy, state_tree, purses_tree, balance}
use Rattle.whole_rules.specs.declared.money.Purses.{Purses}

-- Where no part has a play of more than n moves, who loses is the sign of the sum of the parts' trees, the purses and the token.
abbrev pub Decomposes : Type 0 → Type 0
Decomposes P = (moves : Colour → P → List (Step P)) (n : ℕ) (s : State P)
    → AllEnd P moves n s.parts → IsDecidedBy P moves (state_tree P moves n s) s

-- Where each play in each part ends, there is a number of moves that none of them passes.
abbrev pub PlayIsBounded : Type 0 → Type 0
PlayIsBounded P = (moves : Colour → P → List (Step P)) (ps : List P)
    → ((p : P) → Contains ps p → EachPlayEnds P moves p) → (n : ℕ) × AllEnd P moves n ps

-- purses and token are worth their balance
abbrev pub PursesAreBalance : Type 0
PursesAreBalance = (m : Purses) → purses_tree m ≡ᵍ num 1 (balance m)
