use Rattle.std.proofs.Common.{take}
use Rattle.game_canon.specs.inner.Comparisons.{recalled}
use Rattle.game_canon.specs.inner.Games.{IsKnown}
use Rattle.game_canon.specs.inner.Sides.{IsUncovered}
use Rattle.game_canon.proofs.groups.uncovered.Given as goal

abbrev pub invariant-loop-id : goal.invariant-loop-id
invariant-loop-id l = record { known : IsKnown l.games (recalled l.memo); so_far : IsUncovered l.side l.games.store.now (take l.id-index l.ids) l.others l.left.items }
