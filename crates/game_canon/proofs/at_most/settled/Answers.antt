use Rattle.std.proofs.Common.{refl, subst}
use Rattle.short_games.specs.Order.{◌≤ᵍ◌}
use Rattle.short_games.specs.Tree.{tree_at}
use Rattle.short_games.proofs.OrderLaws.{le-refl}
use Rattle.game_canon.specs.inner.Games.{trees}
use Rattle.game_canon.proofs.at_most.settled.Goals as goal

pub returns-then-a-b-clause-some : goal.returns-then-a-b-clause-some
returns-then-a-b-clause-some c = (λ _. subst (λ i. tree_at (trees c.args.games.now) c.args.a ≤ᵍ tree_at (trees c.args.games.now) i) c.if-a-b.true (le-refl (tree_at (trees c.args.games.now) c.args.a)), λ _. refl)
