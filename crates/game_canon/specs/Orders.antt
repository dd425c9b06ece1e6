-- The order of two games, as an answer names it.
use Rattle.short_games.specs.Tree.{Tree}
use Rattle.short_games.specs.Order.{◌≤ᵍ◌}
use Rattle.game_canon.specs.declared.order.Order.{Order}
use Rattle.game_canon.specs.declared.order.Order.TheVariants.{Less, Equal, Greater, Confused}

-- how G compares with H: it is less than H, equal to it, greater, or confused with it
abbrev pub IsOrder : Order → Tree → Tree → Type 0
IsOrder Less G H = (G ≤ᵍ H) × (H ≤ᵍ G → ⊥)
IsOrder Equal G H = (G ≤ᵍ H) × (H ≤ᵍ G)
IsOrder Greater G H = (G ≤ᵍ H → ⊥) × (H ≤ᵍ G)
IsOrder Confused G H = (G ≤ᵍ H → ⊥) × (H ≤ᵍ G → ⊥)
