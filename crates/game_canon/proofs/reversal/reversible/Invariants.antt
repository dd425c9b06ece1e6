use Rattle.std.proofs.Common.{ℕ, ◌<◌, ◌≤◌, ◌⊎◌, get_or, length}
use Rattle.short_games.specs.Number.{IsNumberTree}
use Rattle.short_games.specs.Tree.{tree_at}
use Rattle.game_canon.specs.inner.Comparisons.{recalled}
use Rattle.game_canon.specs.inner.Games.{beside, IsKnown}
use Rattle.game_canon.specs.inner.Sides.{IsIrreversible}
use Rattle.game_canon.proofs.reversal.reversible.Given as goal

abbrev pub invariant-places : goal.invariant-places
invariant-places l = record { known : IsKnown l.games (recalled l.memo); so_far : (j : ℕ) → l.place ≤ j → j < length l.ids → IsNumberTree (tree_at l.games.store.now (get_or l.ids j 0)) ⊎ IsIrreversible l.side (beside l.games) (tree_at l.games.store.now (get_or l.ids j 0)); within : l.place ≤ length l.ids }

abbrev pub decreases-places : goal.decreases-places
decreases-places l = l.place
