-- What is known of the sums of a line.
use Rattle.std.specs.Prelude.{ℕ, ◌<◌, List, length, Option, Some, None}
use Rattle.short_games.specs.Tree.{Tree}
use Rattle.game_canon.specs.Outcomes.{IsCanonicalId}
use Rattle.game_calc.specs.Expression.{Expression, tree_of, HasStepOutOfLimits}
use Rattle.game_calc.specs.declared.amounts.Amount.{Amount}
use Rattle.game_calc.specs.declared.amounts.Amount.TheVariants.{Known, TooLarge}
use Rattle.game_calc.specs.declared.amounts.Pass.{Pass}
use Rattle.game_calc.specs.declared.amounts.Pass.TheVariants.{Grammar, Sums}

-- what is known of a sum: the id of its canonical tree, where each step is within the limits, or that one isn't
abbrev pub IsAmount : List Tree → ℕ → Expression → Amount → Type 0
IsAmount Ts limit E (Known id) = IsCanonicalId Ts (tree_of E) id × (HasStepOutOfLimits limit E → ⊥)
IsAmount Ts limit E TooLarge = HasStepOutOfLimits limit E

-- the id that is known of a sum, if one is, is an id of the store
abbrev pub IsHeld : List Tree → Amount → Type 0
IsHeld Ts (Known id) = id < length Ts
IsHeld Ts TooLarge = Unit {0}

-- the id that is known of a sum, where there is one, is an id of the store
abbrev pub IsHeldBefore : List Tree → Option Amount → Type 0
IsHeldBefore Ts None = Unit {0}
IsHeldBefore Ts (Some a) = IsHeld Ts a

-- what a pass knows of a sum: in the pass that makes sums what it comes to, in the one that reads the grammar no more than that
-- an id is one of the store
abbrev pub IsTerm : Pass → List Tree → ℕ → Expression → Amount → Type 0
IsTerm Grammar Ts limit E a = IsHeld Ts a
IsTerm Sums Ts limit E a = IsAmount Ts limit E a

-- what a pass knows of a sum, where there is one
abbrev pub IsBefore : Pass → List Tree → ℕ → Option Expression → Option Amount → Type 0
IsBefore pass Ts limit None None = Unit {0}
IsBefore pass Ts limit (Some E) (Some a) = IsTerm pass Ts limit E a
IsBefore pass Ts limit o b = ⊥
