-- Places in chains: a link is one more than a place, or 0 for none.
use Rattle.std.specs.Prelude.{ℕ, ◌≤◌, List, length, slice_index, slice_index_or}
use Rattle.local_value.specs.declared.chains.Link.{Link}

-- each link leads to one of the first places, or to none
abbrev pub AreBelow : ℕ → List ℕ → Type 0
AreBelow places links = (slot : ℕ) → slice_index links slot ≤ places

-- the link that stands for one past the last
abbrev pub no_link : Link
no_link = record { hash = 0; before = 0 }

-- the link of each place leads to an earlier one, or to none
abbrev pub FallBack : List Link → Type 0
FallBack links = (place : ℕ) → (slice_index_or links place no_link).before ≤ place

-- the latest links lead to places, and from each place links lead back
pub record AreChained (latest : List ℕ) (links : List Link) : Type 0 where
  pub below : AreBelow (length links) latest
  pub back : FallBack links
