use Rattle.std.proofs.Common.{sym, ap, ◌∙◌, subst}
use Rattle.short_games.specs.Tree.{tree_at}
use Rattle.short_games.proofs.StopLaws.{goes_with-left}
use Rattle.game_store.specs.inner.Places.{IsPlaced, floor_at, ceiling_at}
use Rattle.game_store.proofs.StoreLaws.{canonical-at, holds, in_range, placed-at}
use Rattle.game_store.proofs.Store.ceiling.Goals as goal

pub read_ceiling-requires : goal.read_ceiling-requires
read_ceiling-requires c = rw c.deref.ensures.value (in_range (holds c.self.invariant c.self.view_is) c.args.id c.requires)

placed : (c : goal.After-read_ceiling) → IsPlaced (tree_at c.args.self.now c.args.id) (floor_at c.self.inside.slots.items c.args.id) c.read_ceiling.result
placed c = subst (IsPlaced (tree_at c.args.self.now c.args.id) (floor_at c.self.inside.slots.items c.args.id))
    (sym (c.read_ceiling.ensures ∙ ap (λ slots. ceiling_at slots c.args.id) c.deref.ensures.value)) (placed-at (holds c.self.invariant c.self.view_is) c.args.id c.requires)

pub returns-clause-ceiling : goal.returns-clause-ceiling
returns-clause-ceiling c = (placed c).ceiling_is

pub returns-clause-stop : goal.returns-clause-stop
returns-clause-stop c = goes_with-left 60 _ _ (canonical-at (holds c.self.invariant c.self.view_is) c.args.id c.requires) (placed c).ceiling_is (placed c).left_stop
