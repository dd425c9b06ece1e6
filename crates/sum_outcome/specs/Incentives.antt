-- Which moves are as good as others.
use Rattle.std.specs.Prelude.{◌<◌, List, length, Contains, Bool, IsTrue, ◌↔◌}
use Rattle.short_games.specs.Tree.{Tree, tree_at}
use Rattle.short_games.specs.Order.{◌≤ᵍ◌}
use Rattle.go_grid.specs.Board.{other}
use Rattle.short_games.specs.SumLaws.{incentive}
use Rattle.sum_outcome.specs.declared.incentives.MovePair.{MovePair}

-- the games and the options of a pair of moves are ids
pub record AreStoredMoves (Ts : List Tree) (p : MovePair) : Type 0 where
  pub game_id : p.game < length Ts
  pub option_id : p.option < length Ts
  pub other_id : p.other < length Ts
  pub other_option_id : p.other_option < length Ts

-- the incentive of the first move is at least that of the second
abbrev pub IsAtLeast : List Tree → MovePair → Type 0
IsAtLeast Ts p = incentive (tree_at Ts p.other) (tree_at Ts p.other_option) ≤ᵍ incentive (tree_at Ts p.game) (tree_at Ts p.option)

-- a pair of moves is of ids of the store, and the answer says whether the first incentive is at least the second
abbrev pub IsAnswer : List Tree → MovePair → Bool → Type 0
IsAnswer Ts p answer = AreStoredMoves Ts p × (IsTrue answer ↔ IsAtLeast Ts p)

-- each answer on a pair of moves is right, and of ids of the store
abbrev pub AreIncentivesRight : List Tree → List (MovePair × Bool) → Type 0
AreIncentivesRight Ts known = (e : MovePair × Bool) → Contains known e → IsAnswer Ts e.0 e.1
