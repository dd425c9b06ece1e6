use Rattle.std.proofs.Common.{List, ℕ, ◌∙◌, subst}
use Rattle.game_canon.specs.inner.Sides.{IsWithout}
use Rattle.game_canon.proofs.domination.take_in.Goals as goal

pub returns-clause-with_top : goal.returns-clause-with_top
returns-clause-with_top c = (c.put_uncovered.new.left.items, subst (λ (z : List ℕ). IsWithout c.args.side c.args.games.now.store.now z c.args.top c.put_uncovered.new.left.items) c.deref.ensures c.in_ok-put_uncovered.ensures.without, c.put.ensures ∙ c.in_ok-push.ensures.ok)
