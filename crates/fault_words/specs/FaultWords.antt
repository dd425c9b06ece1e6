-- The words of faults of regions, where points are named by `name`.
use Rattle.std.specs.Prelude.{◌≡◌, ℕ, List, ◌++◌, flat_map, codes, decimal}
use Rattle.go_grid.specs.declared.grid.Colour.{Colour}
use Rattle.board_words.specs.Words.{colour_word}
use Rattle.endgame_solver.specs.Limits.{Limits}
use Rattle.endgame_solver.specs.declared.faults.SolveError.{SolveError}
use Rattle.endgame_solver.specs.declared.faults.SolveError.TheVariants.{Points, Positions, Cycle, Form, Memory}

-- a region of too many points, by its lowest one and their number
unfoldable pub points_words : (ℕ → List ℕ) → ℕ → ℕ → List ℕ
points_words name p n = codes "region " ++ (name p ++ (codes " points " ++ decimal n))

-- a region of more positions than the limit
unfoldable pub positions_words : (ℕ → List ℕ) → ℕ → ℕ → List ℕ
positions_words name p limit = codes "region " ++ (name p ++ (codes " positions over " ++ decimal limit))

-- a move of a cycle, behind a blank
unfoldable pub cycle_move : (ℕ → List ℕ) → Colour × ℕ → List ℕ
cycle_move name m = codes " " ++ (colour_word m.0 ++ (codes ":" ++ name m.1))

-- the moves of a cycle of a region, and after how many of them the position stands first that the last one repeats
unfoldable pub cycle_words : (ℕ → List ℕ) → ℕ → ℕ → List (Colour × ℕ) → List ℕ
cycle_words name p back moves = codes "cycle " ++ (name p ++ ((codes " " ++ decimal back) ++ flat_map (cycle_move name) moves))

-- a region with a value that has no form within the limit
unfoldable pub form_words : (ℕ → List ℕ) → ℕ → List ℕ
form_words name p = codes "form " ++ name p

-- the words of a fault; want of memory has none
abbrev pub AreFaultWords : (ℕ → List ℕ) → Limits → SolveError → List ℕ → Type 0
AreFaultWords name limits (Points p n) words = words ≡ points_words name p n
AreFaultWords name limits (Positions p) words = words ≡ positions_words name p limits.positions
AreFaultWords name limits (Cycle p names back) words = words ≡ cycle_words name p back names
AreFaultWords name limits (Form p) words = words ≡ form_words name p
AreFaultWords name limits (Memory e) words = ⊥
