use Rattle.std.proofs.Common.{take, ◌++◌}
use Rattle.game_canon.specs.inner.Comparisons.{recalled}
use Rattle.game_canon.specs.inner.Games.{IsKnown}
use Rattle.game_canon.specs.inner.Sides.{AreBest}
use Rattle.game_canon.proofs.domination.take_in_all.Given as goal

abbrev pub invariant-loop-id : goal.invariant-loop-id
invariant-loop-id l = record { known : IsKnown l.games (recalled l.memo); so_far : AreBest l.side l.games.store.now (l.fn.best.items ++ take l.id-index l.ids) l.best.items }
