use Rattle.std.proofs.Common.{ap, subst}
use Rattle.short_games.specs.Order.{◌≡ᵍ◌}
use Rattle.short_games.specs.TextOrder.{tree_text}
use Rattle.short_games.proofs.OrderLaws.{le-refl}
use Rattle.short_games.proofs.ReductionLaws.{canonical-same}
use Rattle.short_games.proofs.TextOrderLaws.{tree_text-one_to_one}
use Rattle.short_games.proofs.text_laws.Goals as goal

pub returns-clause-trees : goal.returns-clause-trees
returns-clause-trees c = tree_text-one_to_one

pub returns-clause-games : goal.returns-clause-games
returns-clause-games c = λ G H g h. (
  λ e. subst (λ X. G ≡ᵍ X) (tree_text-one_to_one G H e) (le-refl G, le-refl G),
  λ (under, over). ap tree_text (canonical-same G H g h under over),
)
