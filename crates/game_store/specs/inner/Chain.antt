-- How a store finds a form again: each entry has a fingerprint, and entries of one fingerprint are chained from the latest back.
use Rattle.std.specs.Prelude.{ℕ, ◌/◌, unsigned_abs, ℤ, zero, suc, ◌≡◌, ◌+◌, ◌*◌, ◌%◌, ◌^◌, ◌<◌, ◌≤◌, List, length, map, fold, Option, None, Some, pos, cond, nat_eq}
use Rattle.std.specs.List.{slice_index_or}
use Rattle.game_store.specs.Meaning.{Wanted}
use Rattle.game_store.specs.inner.Meaning.{entry_at, held}
use Rattle.game_store.specs.Meaning.Wanted.{number, options}
use Rattle.game_store.specs.declared.Entry.{Entry}
use Rattle.game_store.specs.declared.Entry.TheVariants.{Number}
use Rattle.game_store.specs.declared.Slot.{Slot}

-- the entries of the slots
abbrev pub entries_of : List Slot → List Entry
entries_of = map (λ s. s.entry)

-- the fingerprint after one more word; the multiplier is 2 ^ 64 over the golden ratio
abbrev pub mix : ℕ → ℕ → ℕ
mix hash x = (hash * 11400714819323198485 % 2 ^ 64 + x) % 2 ^ 64

-- the fingerprint of options, which are ids
unfoldable pub options_fingerprint : List ℕ → List ℕ → ℕ
options_fingerprint ls rs = fold mix (mix (fold mix 1 ls) 7) rs

-- the fingerprint of a number; a number and its negative have the same
unfoldable pub number_fingerprint : ℤ → ℕ
number_fingerprint x = mix (mix 3 (unsigned_abs x / 2 ^ 64)) (unsigned_abs x % 2 ^ 64)

-- the fingerprint of a form
abbrev pub fingerprint : Wanted → ℕ
fingerprint (number x) = number_fingerprint x
fingerprint (options ls rs) = options_fingerprint ls rs

-- the fingerprint of the form at a place
abbrev pub fingerprints : List (List ℕ) → List Slot → ℕ → ℕ
fingerprints lists slots k = fingerprint (held lists (entry_at (entries_of slots) k))

-- the last of the first n places that has the fingerprint
abbrev pub latest_of : (ℕ → ℕ) → ℕ → ℕ → Option ℕ
latest_of P zero p = None
latest_of P (suc n) p = cond (nat_eq (P n) p) (Some n) (latest_of P n p)

-- the slot at a place, one of the number 0 past the last
abbrev pub slot_at : List Slot → ℕ → Slot
slot_at slots k = slice_index_or slots k (record { entry = Number (pos 0); before = None; floor = pos 0; ceiling = pos 0 })

-- the place before in the chain of a place, if there is one
abbrev pub before_at : List Slot → ℕ → Option ℕ
before_at slots k = (slot_at slots k).before

-- the place before each place in its chain is the last earlier one of its fingerprint
abbrev pub HasBefores : List (List ℕ) → List Slot → Type 0
HasBefores lists slots = (k : ℕ) → k < length slots → before_at slots k ≡ latest_of (fingerprints lists slots) k (fingerprints lists slots k)

-- the slots are chained from the latest place of each fingerprint back, each to the last earlier one of its fingerprint
pub record IsChained (lists : List (List ℕ)) (slots : List Slot) (latest : ℕ → Option ℕ) : Type 0 where
  pub befores : HasBefores lists slots
  pub latest_is : (p : ℕ) → latest p ≡ latest_of (fingerprints lists slots) (length slots) p

-- where a walk along a chain is: what it has left is the chain of the first n places, and no place from n on has the form
pub record IsAt (lists : List (List ℕ)) (slots : List Slot) (w : Wanted) (at : Option ℕ) : Type 0 where
  pub left : ℕ
  pub within : left ≤ length slots
  pub is : at ≡ latest_of (fingerprints lists slots) left (fingerprint w)
  pub passed : (k : ℕ) → left ≤ k → k < length slots → held lists (entry_at (entries_of slots) k) ≡ w → ⊥

-- a number that falls along a chain: 0 at its end, else one more than the place
abbrev pub place : Option ℕ → ℕ
place None = 0
place (Some k) = suc k
