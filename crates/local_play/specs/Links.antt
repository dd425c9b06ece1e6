-- Links of places as sets of places, and what floods along them reach.
use Rattle.std.specs.Prelude.{◌≡◌, ℕ, ◌<◌, ◌≤◌, ◌↔◌, List, length, slice_index_or}
use Rattle.go_grid.specs.declared.grid.Colour.TheVariants as colour
use Rattle.go_grid.specs.declared.region.Touch.{Touch}
use Rattle.local_play.specs.declared.places.Places.{Places}
use Rattle.local_play.specs.declared.links.Links.{Links}
use Rattle.local_play.specs.LocalPlay.{IsLinked, IsBeside}
use Rattle.local_play.specs.Places.{Has}
use Rattle.local_play.specs.declared.places.TheConstants.{MOST_PLACES}

-- at most 32 places, each link leads to another of them, and there is one back
pub record LinksWithin (touch : List Touch) : Type 0 where
  pub few : length touch ≤ MOST_PLACES
  pub inside : (i j : ℕ) → IsLinked touch i j → j < length touch
  pub apart : (i : ℕ) → ¬ IsLinked touch i i
  pub back : (i j : ℕ) → IsLinked touch i j → IsLinked touch j i

-- the set of the places that a place is linked to
abbrev pub near_at : Links → ℕ → Places
near_at links i = slice_index_or links.near i (record { 0 = 0 })

-- the sets say what the touches of the places below `n` say
pub record IsTableBelow (touch : List Touch) (links : Links) (n : ℕ) : Type 0 where
  pub long : length links.near ≡ MOST_PLACES
  pub near : (i j : ℕ) → i < MOST_PLACES → Has (near_at links i) j ↔ ((i < n) × IsLinked touch i j)
  pub all : (i : ℕ) → Has links.all i ↔ (i < n)
  pub black : (i : ℕ) → Has links.black i ↔ ((i < n) × IsBeside touch colour.Black i)
  pub white : (i : ℕ) → Has links.white i ↔ ((i < n) × IsBeside touch colour.White i)

-- the sets say what the touches of the region's places say
pub record IsTable (touch : List Touch) (links : Links) : Type 0 where
  pub within : LinksWithin touch
  pub table : IsTableBelow touch links (length touch)
