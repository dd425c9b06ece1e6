use Rattle.std.proofs.Common.{◌+◌}
use Rattle.short_games.specs.Tree.{sizes}
use Rattle.game_store.specs.Meaning.{pick}
use Rattle.game_canon.specs.inner.Comparisons.{recalled}
use Rattle.game_canon.specs.inner.Games.{beside, IsKnown}
use Rattle.game_canon.proofs.ReductionLaws.{IsReducing}
use Rattle.game_canon.proofs.reduction.bypass_lists.Given as goal

abbrev pub invariant-rounds : goal.invariant-rounds
invariant-rounds l = record { known : IsKnown l.games (recalled l.memo); so_far : IsReducing l.games.store.now (beside l.games) l.left.items l.right.items }

abbrev pub decreases-rounds : goal.decreases-rounds
decreases-rounds l = sizes (pick l.games.store.now l.left.items) + sizes (pick l.games.store.now l.right.items)
