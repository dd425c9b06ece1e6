-- What is remembered from graph to graph while their positions are valued.
use Rattle.std.specs.Prelude.{ℕ, ◌+◌, ◌/◌, ◌%◌, ◌^◌, ◌<◌, ◌↔◌, List, length, Contains, Option, None, Some, cond, nat_eq, filter_map, Result, Ok, Err, ℤ, pos, ◌+ℤ◌, ◌*ℤ◌}
use Rattle.go_grid.specs.declared.grid.Colour.{Colour}
use Rattle.go_grid.specs.declared.grid.Colour.TheVariants.{Black, White}
use Rattle.short_games.specs.Tree.{Tree, tree_at}
use Rattle.short_games.specs.Sum.{◌+ᵍ◌}
use Rattle.short_games.specs.Number.{number_tree}
use Rattle.short_games.specs.Parts.{HasMoreParts, IsNumberOf}
use Rattle.game_store.specs.Meaning.{listed, AreIds}
use Rattle.game_canon.specs.Outcomes.{IsCanonicalId, AreWithin, AreOptionsWithin}
use Rattle.game_canon.specs.FormComparisons.{ComparedForms, AreFormComparisonsRight}
use Rattle.local_value.specs.declared.budgets.BudgetError.{BudgetError}
use Rattle.local_value.specs.declared.budgets.BudgetError.TheVariants.{Form, Captures}

-- what the number of an option has more than twice its id
abbrev pub side : Colour → ℕ
side Black = 0
side White = 1

-- the id of an option, if it is the player's
abbrev pub option_for : Colour → ℕ → Option ℕ
option_for c o = cond (nat_eq (o % 2) (side c)) (Some (o / 2)) None

-- the ids of the player's options
abbrev pub options_of : Colour → List ℕ → List ℕ
options_of c os = filter_map (option_for c) os

-- so many stones as a number, in parts of 2 ^ -60
abbrev pub stones_units : ℤ → ℤ
stones_units stones = stones *ℤ pos (2 ^ 60)

-- the id of the sum of a game and so many stones, whose numbers are those of the game with the stones added
pub record IsStonesSum (Ts : List Tree) (game : ℕ) (stones : ℤ) (id : ℕ) : Type 0 where
  pub game_id : game < length Ts
  pub value : IsCanonicalId Ts (tree_at Ts game +ᵍ number_tree (stones_units stones)) id
  pub numbers : (y : ℤ) → IsNumberOf (tree_at Ts game) y ↔ IsNumberOf (tree_at Ts id) (y +ℤ stones_units stones)

-- each sum that is remembered is right
abbrev pub AreStonesSumsRight : List Tree → List ((ℕ × ℤ) × ℕ) → Type 0
AreStonesSumsRight Ts sums = (game : ℕ) (stones : ℤ) (id : ℕ) → Contains sums ((game, stones), id) → IsStonesSum Ts game stones id

-- the id of the canonical form of the game with these options, which has at most so many parts
pub record IsFormOfOptions (Ts : List Tree) (limit : ℕ) (ls rs : List ℕ) (id : ℕ) : Type 0 where
  pub left_ids : AreIds Ts ls
  pub right_ids : AreIds Ts rs
  pub value : IsCanonicalId Ts (listed Ts ls rs) id
  pub few : HasMoreParts (tree_at Ts id) limit → ⊥
  pub sizes : (b : ℕ) → AreOptionsWithin b (listed Ts ls rs) → AreWithin (b + 2 ^ 60) (tree_at Ts id)

-- the id of the canonical form of the game with the options in the list
abbrev pub IsFormOf : List Tree → ℕ → List ℕ → ℕ → Type 0
IsFormOf Ts limit os id = IsFormOfOptions Ts limit (options_of Black os) (options_of White os) id

-- each form that is remembered is right
abbrev pub AreKnownRight : List Tree → ℕ → List (List ℕ × ℕ) → Type 0
AreKnownRight Ts limit known = (os : List ℕ) (id : ℕ) → Contains known (os, id) → IsFormOf Ts limit os id

-- what is remembered: ids of sums by games and stones, ids of canonical forms by options, and comparisons of forms
pub record Remembered : Type 0 where
  pub sums : List ((ℕ × ℤ) × ℕ)
  pub forms : List (List ℕ × ℕ)
  pub comparisons : ComparedForms

-- all that is remembered is right for the store and the limit on parts
pub record IsRememberedRight (Ts : List Tree) (limit : ℕ) (memory : Remembered) : Type 0 where
  pub sums : AreStonesSumsRight Ts memory.sums
  pub forms : AreKnownRight Ts limit memory.forms
  pub comparisons : AreFormComparisonsRight Ts memory.comparisons

-- unless a value had no form, what is remembered is right
abbrev pub IsRightAfter : {A : Type 0} → List Tree → ℕ → Result A BudgetError → Remembered → Type 0
IsRightAfter Ts limit (Ok valued) memory = IsRememberedRight Ts limit memory
IsRightAfter Ts limit (Err Captures) memory = IsRememberedRight Ts limit memory
IsRightAfter Ts limit (Err (Form error)) memory = Unit {0}
