-- What a move changes of the present state.
use Rattle.std.specs.Prelude.{ℕ, ◌+◌, ◌≡◌, ◌≢◌, ◌<◌, ◌≤◌, ◌↔◌, List, length, set, slice_index_or, IfSome, Option, None, Some, Bool, true, false}
use Rattle.go_grid.specs.declared.grid.Colour.{Colour}
use Rattle.go_grid.specs.Board.{Board, other}
use Rattle.whole_rules.specs.declared.states.Move.{Move}
use Rattle.whole_rules.specs.Purses.{purse}
use Rattle.whole_rules.specs.WholeGame.{Whole, IsLegal, IsMove}
use Rattle.endgame_solver.specs.Regions.{region_at}
use Rattle.endgame_solver.specs.SumGame.{AreModest}
use Rattle.whole_budgets.specs.BudgetPlay.{IsReturningCapture}
use Rattle.cycle_solver.specs.declared.asking.Present.{Present}
use Rattle.cycle_solver.specs.declared.changes.Change.{Change}
use Rattle.cycle_solver.specs.Held.{AreSolved, IsAt}

-- the places after a stone, if there is one
abbrev pub places_after : List ℕ → Option (ℕ × ℕ) → List ℕ
places_after places None = places
places_after places (Some x) = set places x.0 x.1

-- what is seen stands at these places in the state
abbrev pub StandsAt : Present → List ℕ → Whole → Type 0
StandsAt present places t = (g : Board) × AreSolved g present.regions.now present.games.now present.store.now
    × IsAt g present.regions.now present.games.now places t

-- a state has the places and the purses of the change, and the other side to move
pub record IsChanged (present : Present) (x : Change) (t : Whole) : Type 0 where
  pub stands : StandsAt present (places_after present.places.now x.stone) t
  pub purses : t.purses ≡ x.purses
  pub turn : t.side ≡ other present.whole.now.side

-- the change uses up budget of the region at the place
abbrev pub UsesAt : Change → ℕ → Type 0
UsesAt x k = (x.uses ≡ true) × ((i : ℕ) × (x.stone ≡ Some (k, i)))

-- the move is legal, and this is what it changes
pub record IsChange (present : Present) (m : Move) (x : Change) : Type 0 where
  pub legal : IsLegal present.whole.now m
  pub each : (t : Whole) → IsMove present.whole.now m t → IsChanged present x t
  pub uses : (t : Whole) → IsMove present.whole.now m t → (k : ℕ) → k < length present.regions.now
      → IsReturningCapture (region_at present.regions.now k) present.whole.now m t ↔ UsesAt x k
  pub modest : AreModest x.purses
  pub grown : (c : Colour) → purse c x.purses ≤ purse c present.whole.now.purses + 33
  pub known : IfSome x.stone (λ y. y.0 < length present.regions.now)

-- some move changes this
abbrev pub IsSomeChange : Present → Change → Type 0
IsSomeChange present x = (m : Move) × IsChange present m x

-- the budgets behind a change: this one in the region of the stone, if there is one, and else as before
abbrev pub AreBehind : Option (ℕ × ℕ) → ℕ → (ℕ → ℕ) → (ℕ → ℕ) → Type 0
AreBehind None budget before behind = (k : ℕ) → behind k ≡ before k
AreBehind (Some x) budget before behind = (behind x.0 ≡ budget) × ((k : ℕ) → k ≢ x.0 → behind k ≡ before k)

-- what is left of the budget of the stone's region, or none where that has nothing to pay with; without a stone nothing matters
abbrev pub IsLeft : Option (ℕ × ℕ) → Bool → List ℕ → Option ℕ → Type 0
IsLeft None uses budgets left = left ≡ Some 0
IsLeft (Some x) true budgets None = slice_index_or budgets x.0 0 ≡ 0
IsLeft (Some x) true budgets (Some left) = slice_index_or budgets x.0 0 ≡ left + 1
IsLeft (Some x) false budgets left = left ≡ Some (slice_index_or budgets x.0 0)

-- the listed budgets with this one in the region of the stone, if there is one
abbrev pub budgets_after : List ℕ → Option (ℕ × ℕ) → ℕ → List ℕ
budgets_after budgets None left = budgets
budgets_after budgets (Some x) left = set budgets x.0 left

-- the stone is what a legal move changes of the places, and none where the move is illegal
pub record IsBehind (present : Present) (m : Move) (stone : Option (ℕ × ℕ)) : Type 0 where
  pub stands : (t : Whole) → IsMove present.whole.now m t → StandsAt present (places_after present.places.now stone) t
  pub grown : (t : Whole) → IsMove present.whole.now m t → (c : Colour) → purse c t.purses ≤ purse c present.whole.now.purses + 33
  pub still : ¬ IsLegal present.whole.now m → stone ≡ None
  pub known : IfSome stone (λ x. x.0 < length present.places.now)
