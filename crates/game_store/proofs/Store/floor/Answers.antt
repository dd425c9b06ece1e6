use Rattle.std.proofs.Common.{sym, ap, ◌∙◌, subst}
use Rattle.short_games.specs.Tree.{tree_at}
use Rattle.short_games.proofs.StopLaws.{goes_with-right}
use Rattle.game_store.specs.inner.Places.{IsPlaced, floor_at, ceiling_at}
use Rattle.game_store.proofs.StoreLaws.{canonical-at, holds, in_range, placed-at}
use Rattle.game_store.proofs.Store.floor.Goals as goal

pub read_floor-requires : goal.read_floor-requires
read_floor-requires c = rw c.deref.ensures.value (in_range (holds c.self.invariant c.self.view_is) c.args.id c.requires)

placed : (c : goal.After-read_floor) → IsPlaced (tree_at c.args.self.now c.args.id) c.read_floor.result (ceiling_at c.self.inside.slots.items c.args.id)
placed c = subst (λ x. IsPlaced (tree_at c.args.self.now c.args.id) x (ceiling_at c.self.inside.slots.items c.args.id))
    (sym (c.read_floor.ensures ∙ ap (λ slots. floor_at slots c.args.id) c.deref.ensures.value)) (placed-at (holds c.self.invariant c.self.view_is) c.args.id c.requires)

pub returns-clause-floor : goal.returns-clause-floor
returns-clause-floor c = (placed c).floor_is

pub returns-clause-stop : goal.returns-clause-stop
returns-clause-stop c = goes_with-right 60 _ _ (canonical-at (holds c.self.invariant c.self.view_is) c.args.id c.requires) (placed c).floor_is (placed c).right_stop
