-- What is kept of the stones that were asked for their thresholds.
use Rattle.std.specs.Prelude.{ℕ, ◌≡◌, ◌<◌, ◌≤◌, ◌^◌, List, Contains, length, slice_index, slice_set, unsigned_abs}
use Rattle.go_grid.specs.declared.grid.Colour.{Colour}
use Rattle.short_games.specs.Tree.{Tree}
use Rattle.short_games.specs.Sum.{total}
use Rattle.game_store.specs.Meaning.{pick}
use Rattle.endgame_solver.specs.Thresholds.{IsLeastWin}
use Rattle.endgame_solver.specs.declared.asked.Answered.{Answered}

-- the answer is on a stone that takes and puts the games of these ids
abbrev pub IsOn : ℕ → ℕ → Answered → Type 0
IsOn i j a = (a.before ≡ i) × (a.after ≡ j)

-- wherever the sum has the one game, the other in its place leaves the answer's number as the least with which Black wins, where this player moves first
pub record IsAnswer (Ts : List Tree) (ids : List ℕ) (c : Colour) (a : Answered) : Type 0 where
  pub wins : (k : ℕ) → k < length ids → slice_index ids k ≡ a.before → IsLeastWin c (total (pick Ts (slice_set ids k a.after))) a.least
  pub small : unsigned_abs a.least ≤ 2 ^ 45

-- each answer is right of the sum
pub record AreAnswers (Ts : List Tree) (ids : List ℕ) (c : Colour) (answered : List Answered) : Type 0 where
  pub each : (a : Answered) → Contains answered a → IsAnswer Ts ids c a
