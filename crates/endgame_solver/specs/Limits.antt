-- The limits of solving, and their ranges.
use Rattle.std.specs.Prelude.{◌≡◌, ◌≤◌, ℕ, Option, Some, None}
use Rattle.local_graph.specs.declared.graph.TheConstants.{MOST_POSITIONS}
use Rattle.endgame_solver.specs.declared.limits.TheConstants.{MOST_PARTS}

-- how many positions a region may have, and how many parts the form of a value
pub record Limits : Type 0 where
  pub positions : ℕ
  pub parts : ℕ

-- a region may have from 1 to 1,000,000 positions, a form from 1 to 4,000 parts
pub record AreInRange (limits : Limits) : Type 0 where
  pub some_positions : 1 ≤ limits.positions
  pub few_positions : limits.positions ≤ MOST_POSITIONS
  pub some_parts : 1 ≤ limits.parts
  pub few_parts : limits.parts ≤ MOST_PARTS

-- what is made of numbers: the limits with these numbers where they are in range, else none
abbrev pub MakesLimits : Limits → Option Limits → Type 0
MakesLimits numbers (Some limits) = (limits ≡ numbers) × AreInRange numbers
MakesLimits numbers None = ¬ AreInRange numbers

-- the form of a value has at most so many parts
abbrev pub most_parts : ℕ
most_parts = 4000
