-- The options of a position as one list of numbers.
use Rattle.std.specs.Prelude.{ℕ, ◌/◌, ◌%◌, ◌≡◌, ◌≢◌, Option, Some, List, Contains}
use Rattle.go_grid.specs.declared.grid.Colour.{Colour}
use Rattle.go_grid.specs.declared.grid.Colour.TheVariants.{Black, White}
use Rattle.short_games.specs.Tree.{Tree, tree_at}
use Rattle.short_games.specs.Order.{◌≤ᵍ◌}
use Rattle.local_value.specs.Remembered.{side}

-- the number is that of an option of the player, and in the list
abbrev pub IsOptionAmong : Colour → List ℕ → ℕ → Type 0
IsOptionAmong c os n = Contains os n × (n % 2 ≡ side c)

-- the one option is no better for the player than the other
abbrev pub IsNoBetter : Colour → List Tree → ℕ → ℕ → Type 0
IsNoBetter Black Ts n o = tree_at Ts (n / 2) ≤ᵍ tree_at Ts (o / 2)
IsNoBetter White Ts n o = tree_at Ts (o / 2) ≤ᵍ tree_at Ts (n / 2)

-- the player's leader, of both players'
abbrev pub leader_of : Colour → Option ℕ → Option ℕ → Option ℕ
leader_of Black black white = black
leader_of White black white = white

-- the leader is another option, and the option no better
abbrev pub IsLed : Colour → List Tree → Option ℕ → ℕ → Type 0
IsLed c Ts leader n = (o : ℕ) × (leader ≡ Some o) × (o ≢ n) × IsNoBetter c Ts n o

-- some of the options, such that no other is better for its player than each of them
pub record AreEnough (Ts : List Tree) (os kept : List ℕ) : Type 0 where
  pub among : (n : ℕ) → Contains kept n → Contains os n
  pub covered : (c : Colour) (n : ℕ) → IsOptionAmong c os n → (o : ℕ) × IsOptionAmong c kept o × IsNoBetter c Ts n o
