use Rattle.std.proofs.Common.{ℕ, ◌<◌, get_or}
use Rattle.short_games.specs.Tree.{tree_at}
use Rattle.game_canon.specs.inner.Comparisons.{recalled}
use Rattle.game_canon.specs.inner.Games.{beside, IsKnown}
use Rattle.game_canon.specs.inner.Sides.{Covers}
use Rattle.game_canon.proofs.reversal.first_covered.Given as goal

abbrev pub invariant-loop-id : goal.invariant-loop-id
invariant-loop-id l = record { known : IsKnown l.games (recalled l.memo); so_far : (j : ℕ) → j < l.id-index → Covers l.side (tree_at l.games.store.now (get_or l.ids j 0)) (beside l.games) → ⊥ }
