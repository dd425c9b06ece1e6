-- Eyes: a region and a chain to which it is vital, each named by its lowest point.
use Rattle.std.specs.Prelude.{◌≡◌, ◌≢◌, ◌↔◌, ℕ, List, Bool, Contains}
use Rattle.go_grid.specs.declared.grid.Colour.{Colour}
use Rattle.go_grid.specs.Board.{Board, HasStone, Lacks}
use Rattle.go_grid.specs.Marks.{IsMarked}
use Rattle.go_grid.specs.Parts.{label}
use Rattle.benson_life.specs.declared.surveys.Survey.{Survey}
use Rattle.benson_life.specs.declared.eyes.Eye.{Eye}
use Rattle.benson_life.specs.Life.{IsVital}

-- the region of the pair is vital to its chain, and each of the two is named by its lowest point
pub record IsVitalPair (g : Board) (c : Colour) (s : Survey) (e : Eye) : Type 0 where
  pub lacks : Lacks g c e.region
  pub stone : HasStone g c e.chain
  pub region : label s.regions e.region ≡ e.region
  pub chain : label s.chains e.chain ≡ e.chain
  pub vital : IsVital g c e.region e.chain

-- the list has exactly the pairs of a region and a chain to which it is vital, each named by its lowest point
abbrev pub AreEyes : Board → Colour → Survey → List Eye → Type 0
AreEyes g c s eyes = (e : Eye) → Contains eyes e ↔ IsVitalPair g c s e

-- the point is a stone of the chain that `k` names
abbrev pub IsOfChain : Survey → ℕ → ℕ → Type 0
IsOfChain s k q = IsMarked s.stones q × (label s.chains q ≡ k)

-- the pair is of the region of `p` and the chain of the stone `q`
abbrev pub IsPairOf : Board → Colour → Survey → ℕ → ℕ → Eye → Type 0
IsPairOf g c s p q e = IsVitalPair g c s e × (e.region ≡ label s.regions p) × IsOfChain s e.chain q

-- the region is listed for the chain, and its wall isn't breached
abbrev pub HasWalledEye : List Eye → List Bool → ℕ → ℕ → Type 0
HasWalledEye eyes breached k r = Contains eyes (record { region = r; chain = k }) × ¬ IsMarked breached r

-- two different regions are listed for the chain, and neither has a wall that is breached
abbrev pub HasTwoWalledEyes : List Eye → List Bool → ℕ → Type 0
HasTwoWalledEyes eyes breached k =
    (r t : ℕ) × HasWalledEye eyes breached k r × HasWalledEye eyes breached k t × (r ≢ t)
