-- What is asked of a set of places.
use Rattle.std.specs.Prelude.{◌≡◌, ◌≢◌, ℕ, ◌+◌, ◌*◌, ◌<◌, ◌↔◌, Bool, true, false, Option, None, Some, count_ones}
use Rattle.std.specs.Int.{bit_at}
use Rattle.local_play.specs.declared.places.Places.{Places}
use Rattle.local_play.specs.declared.places.TheConstants.{MOST_PLACES}
use Rattle.local_play.specs.Places.{HasBit, Has}

-- the number has the places of the set, and no bits between
pub record IsAlone (set : Places) (alone : ℕ) : Type 0 where
  pub same : (p : ℕ) → HasBit alone p ↔ Has set p
  pub between : (p : ℕ) → bit_at alone (2 * p + 1) ≡ 0

-- the lowest place, or that there is none
abbrev pub IsFirst : Places → Option ℕ → Type 0
IsFirst set None = (q : ℕ) → ¬ Has set q
IsFirst set (Some p) = (p < MOST_PLACES) × Has set p × ((q : ℕ) → q < p → ¬ Has set q)

-- two different places are in the set
pub record HasTwo (set : Places) : Type 0 where
  pub one : ℕ
  pub other : ℕ
  pub apart : one ≢ other
  pub has_one : Has set one
  pub has_other : Has set other

-- whether the set has no place
abbrev pub TellsEmpty : Places → Bool → Type 0
TellsEmpty set true = (q : ℕ) → ¬ Has set q
TellsEmpty set false = (q : ℕ) × Has set q

-- whether two different places are in the set
abbrev pub TellsTwo : Places → Bool → Type 0
TellsTwo set true = HasTwo set
TellsTwo set false = ¬ HasTwo set

-- how many places the set has
pub record IsCountOf (set : Places) (n : ℕ) : Type 0 where
  pub alone : ℕ
  pub is_alone : IsAlone set alone
  pub count : n ≡ count_ones alone
