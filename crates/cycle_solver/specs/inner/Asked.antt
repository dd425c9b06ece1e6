-- What is kept of the stones of a state that were asked for a player's threshold.
use Rattle.std.specs.Prelude.{ℕ, ℤ, ◌≡◌, ◌<◌, ◌≤◌, ◌^◌, ◌-ℤ◌, List, Contains, length, slice_index, slice_set, unsigned_abs}
use Rattle.go_grid.specs.declared.grid.Colour.{Colour}
use Rattle.go_grid.specs.Board.{other}
use Rattle.whole_rules.specs.declared.money.Purses.{Purses}
use Rattle.short_games.specs.Tree.{Tree}
use Rattle.short_games.specs.Sum.{total}
use Rattle.game_store.specs.Meaning.{pick}
use Rattle.endgame_solver.specs.SumGame.{balance}
use Rattle.endgame_solver.specs.Thresholds.{IsLeastWin}
use Rattle.cycle_solver.specs.declared.asked.Answered.{Answered}
use Rattle.cycle_solver.specs.declared.asking.Present.{Present}
use Rattle.cycle_solver.specs.declared.changes.Change.{Change}
use Rattle.cycle_solver.specs.Changes.{places_after}
use Rattle.cycle_solver.specs.Held.{AreSummed, enough}

-- the answer is on a stone that takes and puts the games of these ids, and leaves these purses
abbrev pub IsOn : ℕ → ℕ → Purses → Answered → Type 0
IsOn i j m a = (a.before ≡ i) × (a.after ≡ j) × (a.purses ≡ m)

-- wherever the sum has the one game, the other in its place is won by the answer's margin, where this player moves first
pub record IsAnswer (Ts : List Tree) (ids : List ℕ) (c : Colour) (a : Answered) : Type 0 where
  pub wins : (k : ℕ) → k < length ids → slice_index ids k ≡ a.before
      → IsLeastWin c (total (pick Ts (slice_set ids k a.after))) (balance a.purses -ℤ a.margin)
  pub small : unsigned_abs a.margin ≤ 2 ^ 46

-- each answer is right of the sum
pub record AreAnswers (Ts : List Tree) (ids : List ℕ) (c : Colour) (answered : List Answered) : Type 0 where
  pub each : (a : Answered) → Contains answered a → IsAnswer Ts ids c a

-- behind the change the player's values, where the other side moves first, are won by so many halves of a point
pub record IsWonBy (present : Present) (x : Change) (c : Colour) (n : ℤ) : Type 0 where
  pub ids : List ℕ
  pub summed : AreSummed present.games.now (places_after present.places.now x.stone) c enough ids
  pub least : IsLeastWin (other present.whole.now.side) (total (pick present.store.now ids)) (balance x.purses -ℤ n)
  pub small : unsigned_abs n ≤ 2 ^ 46
