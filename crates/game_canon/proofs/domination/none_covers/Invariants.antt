use Rattle.std.proofs.Common.{ℕ, ◌<◌, get_or}
use Rattle.short_games.specs.Tree.{tree_at}
use Rattle.game_canon.specs.inner.Comparisons.{recalled}
use Rattle.game_canon.specs.inner.Games.{IsKnown}
use Rattle.game_canon.specs.inner.Sides.{Covers}
use Rattle.game_canon.proofs.domination.none_covers.Given as goal

abbrev pub invariant-loop-other : goal.invariant-loop-other
invariant-loop-other l = record { known : IsKnown l.games (recalled l.memo); so_far : (j : ℕ) → j < l.other-index → Covers l.side (tree_at l.games.store.now l.id) (tree_at l.games.store.now (get_or l.ids j 0)) → ⊥ }
