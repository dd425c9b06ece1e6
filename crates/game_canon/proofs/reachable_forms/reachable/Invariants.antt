use Rattle.short_games.specs.Tree.{tree_at}
use Rattle.game_canon.proofs.ReachableLaws.{IsReaching}
use Rattle.game_canon.proofs.reachable_forms.reachable.Given as goal

abbrev pub invariant-following : goal.invariant-following
invariant-following l = IsReaching l.store (tree_at l.store l.a) l.ids.items l.end

abbrev pub decreases-following : goal.decreases-following
decreases-following l = l.end
