use Rattle.std.proofs.Common.{ap, refl, subst}
use Rattle.short_games.specs.Order.{◌≡ᵍ◌}
use Rattle.short_games.specs.Tree.{tree_at}
use Rattle.short_games.specs.TextOrder.{TextBefore}
use Rattle.short_games.proofs.CanonicalLaws.{canonical-unique}
use Rattle.short_games.proofs.OrderLaws.{same-refl}
use Rattle.short_games.proofs.TextOrderLaws.{text-order}
use Rattle.game_store.proofs.laws.id_laws.Goals as goal

pub returns : goal.returns
returns c = λ Ts i j distinct canonical inside inside'. (
  λ e. subst (λ k. tree_at Ts i ≡ᵍ tree_at Ts k) e (same-refl (tree_at Ts i)),
  λ (under, over). distinct i j inside inside' (canonical-unique TextBefore text-order.irreflexive text-order.transitive (tree_at Ts i) (tree_at Ts j)
      (canonical i inside) (canonical j inside') under over),
)
