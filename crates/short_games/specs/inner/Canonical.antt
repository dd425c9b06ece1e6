-- A strict order of trees.
use Rattle.std.specs.Prelude.{◌≡◌, ◌⊎◌}
use Rattle.short_games.specs.Tree.{Tree}

-- an order of trees in which of two different ones exactly one is before the other
pub record IsStrictOrder (Before : Tree → Tree → Type 0) : Type 0 where
  pub irreflexive : (G : Tree) → Before G G → ⊥
  pub transitive : (G H K : Tree) → Before G H → Before H K → Before G K
  pub total : (G H : Tree) → Before G H ⊎ ((G ≡ H) ⊎ Before H G)
