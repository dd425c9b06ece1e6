-- The links of a region's places.
use Rattle.std.specs.Prelude.{◌≡◌, ℕ, ◌↔◌, ◌⊎◌, List, Some}
use Rattle.go_grid.specs.declared.grid.Colour.{Colour}
use Rattle.go_grid.specs.declared.grid.Colour.TheVariants as colour
use Rattle.go_grid.specs.declared.region.Touch.{Touch}
use Rattle.go_grid.specs.Path.{HasPath}
use Rattle.local_play.specs.declared.places.Places.{Places}
use Rattle.local_play.specs.declared.links.Links.{Links}
use Rattle.local_play.specs.declared.links.Reached.{Reached}
use Rattle.local_play.specs.LocalPlay.{IsLinked}
use Rattle.local_play.specs.Places.{Has}

-- one of the four links leads to the place
abbrev pub IsLinkOf : Touch → ℕ → Type 0
IsLinkOf t j = (t.up ≡ Some j) ⊎ ((t.left ≡ Some j) ⊎ ((t.right ≡ Some j) ⊎ (t.down ≡ Some j)))

-- the set of the places next to an alive stone of the colour
abbrev pub beside_of : Links → Colour → Places
beside_of links colour.Black = links.black
beside_of links colour.White = links.white

-- the places that walks over places of `within` reach from the seeds, and those linked to a reached one
pub record IsReached (touch : List Touch) (seeds within : Places) (r : Reached) : Type 0 where
  pub from : (q : ℕ) → Has r.places q
      → (p : ℕ) × Has seeds p × HasPath (IsLinked touch) (Has within) p q
  pub all : (p q : ℕ) → Has seeds p → HasPath (IsLinked touch) (Has within) p q → Has r.places q
  pub near : (q : ℕ) → Has r.near q ↔ ((p : ℕ) × Has r.places p × IsLinked touch p q)
