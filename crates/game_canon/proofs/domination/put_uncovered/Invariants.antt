use Rattle.std.proofs.Common.{take}
use Rattle.game_canon.specs.inner.Comparisons.{recalled}
use Rattle.game_canon.specs.inner.Games.{IsKnown}
use Rattle.game_canon.specs.inner.Sides.{IsWithout}
use Rattle.game_canon.proofs.domination.put_uncovered.Given as goal

abbrev pub invariant-loop-id : goal.invariant-loop-id
invariant-loop-id l = record { known : IsKnown l.games (recalled l.memo); so_far : IsWithout l.side l.games.store.now (take l.id-index l.ids) l.top l.left.items }
