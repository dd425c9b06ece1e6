-- Sets of places as numbers, and what is asked of them.
use Rattle.std.specs.Prelude.{◌≡◌, ℕ, ◌*◌}
use Rattle.std.specs.Int.{bit_at}
use Rattle.local_play.specs.declared.places.Places.{Places}

-- the number has the bit of the place
unfoldable pub HasBit : ℕ → ℕ → Type 0
HasBit n p = bit_at n (2 * p) ≡ 1

-- the place is one of the set
abbrev pub Has : Places → ℕ → Type 0
Has set p = HasBit set.0 p
