-- The laws of texts.
use Rattle.std.specs.Prelude.{◌≡◌, ◌↔◌}
use Rattle.short_games.specs.Tree.{Tree}
use Rattle.short_games.specs.Order.{◌≡ᵍ◌}
use Rattle.short_games.specs.TextOrder.{tree_text, IsCanonicalTree}

-- trees of equal text are the same tree
abbrev pub TextsAreOneToOne : Type 0
TextsAreOneToOne = (G H : Tree) → tree_text G ≡ tree_text H → G ≡ H

-- canonical trees have equal texts exactly where they are equal as games
abbrev pub TextsTellGames : Type 0
TextsTellGames = (G H : Tree) → IsCanonicalTree G → IsCanonicalTree H → (tree_text G ≡ tree_text H) ↔ (G ≡ᵍ H)
