-- A table of the places of positions.
use Rattle.std.specs.Prelude.{◌≡◌, ◌≢◌, ◌⊎◌, ℕ, suc, ◌+◌, ◌-◌, ◌*◌, ◌/◌, ◌%◌, ◌^◌, ◌<◌, ◌≤◌, List, [], length, slice_index, Contains, bit_and}
use Rattle.std.specs.List.{AllPairs}
use Rattle.go_grid.specs.declared.grid.Cell.{Cell}
use Rattle.go_grid.specs.Board.{stone}
use Rattle.local_play.specs.Packed.{code, pack}
use Rattle.local_play.specs.declared.local_move.LocalMove.{LocalMove}
use Rattle.local_play.specs.declared.places.TheConstants.{MOST_PLACES}
use Rattle.local_graph.specs.declared.place_table.PlaceTable.{PlaceTable}

-- the number with the upper half of each group counted `less` times less
abbrev pub folded : ℕ → ℕ → ℕ → ℕ → ℕ
folded n shift groups less = (n + (2 ^ 64 - bit_and (n / 2 ^ shift) groups * less % 2 ^ 64)) % 2 ^ 64

-- the number whose digits in base 3 are those of the position in base 4
unfoldable pub threes : ℕ → ℕ
threes n =
    let pairs = folded n 2 3689348814741910323 1 in
    let fours = folded pairs 4 1085102592571150095 7 in
    let eights = folded fours 8 71777214294589695 175 in
    let halves = folded eights 16 281470681808895 58975 in
    folded halves 32 4294967295 4251920575

-- the list has the powers of 3, one for each place
abbrev pub ArePowers : List ℕ → Type 0
ArePowers powers = (p : ℕ) → p < MOST_PLACES → slice_index powers p ≡ 3 ^ p

-- a move that takes nothing leads from a position with the number to one with the digit of its stone more
pub record AddsDigit (from : ℕ) (m : LocalMove) : Type 0 where
  pub inside : m.place < MOST_PLACES
  pub plain : m.taken ≡ 0 → threes m.next ≡ from + code (stone m.colour) * 3 ^ m.place

-- the number is that of a position of at most 32 places, whose number in base 3 is one of so many
abbrev pub IsNumbered : ℕ → ℕ → Type 0
IsNumbered numbers n = (cells : List Cell) × (length cells ≤ 32) × (3 ^ length cells ≤ numbers) × (n ≡ pack cells)

-- each of the first so many positions stands in the slot of its number, as one more than its place, and nothing else stands in a slot
pub record AreEntered (positions slots : List ℕ) (count : ℕ) : Type 0 where
  pub each : (i : ℕ) → i < count → slice_index slots (threes (slice_index positions i)) ≡ suc i
  pub own : (number place : ℕ) → slice_index slots number ≡ suc place → (place < count) × (threes (slice_index positions place) ≡ number)

-- there are no slots, and the set has the positions
pub record HasFew (t : PlaceTable) : Type 0 where
  pub none : t.slots.items ≡ []
  pub keys : t.few.keys ≡ t.positions.items

-- each number has a slot, and the slots have the positions
pub record HasSlots (t : PlaceTable) : Type 0 where
  pub enough : t.numbers ≤ length t.slots.items
  pub entered : AreEntered t.positions.items t.slots.items (length t.positions.items)

-- the positions are all different, each has one of its numbers, and a table has all of them
pub record IsPlaceTable (t : PlaceTable) : Type 0 where
  pub numbered : (n : ℕ) → Contains t.positions.items n → IsNumbered t.numbers n
  pub any : 0 < t.numbers
  pub once : AllPairs (λ a b. a ≢ b) t.positions.items
  pub found : HasFew t ⊎ HasSlots t
