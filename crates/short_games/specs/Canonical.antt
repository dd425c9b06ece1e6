-- Canonical trees, where `Before` is the order of texts.
use Rattle.std.specs.Prelude.{◌≡◌}
use Rattle.short_games.specs.Tree.{Tree, Trees, node, none, more, left, right, Has}
use Rattle.short_games.specs.Order.{◌≤ᵍ◌}

module _ (Before : Tree → Tree → Type 0) where
  -- each tree of the list stands before the next
  abbrev pub Ascends : Trees → Type 0
  Ascends none = Unit {0}
  Ascends (more G none) = Unit {0}
  Ascends (more G (more H Hs)) = Before G H × Ascends (more H Hs)

  -- the tree has no dominated and no reversible option, and its options stand in ascending order on both sides
  pub record IsReduced (G : Tree) : Type 0 where
    -- no Left option is at most another, and no Right option at least another
    pub left_free : (A B : Tree) → Has (left G) A → Has (left G) B → A ≤ᵍ B → A ≡ B
    pub right_free : (A B : Tree) → Has (right G) A → Has (right G) B → A ≤ᵍ B → A ≡ B
    -- no option can be answered by a move to where the mover is no better off
    pub left_kept : (L R : Tree) → Has (left G) L → Has (right L) R → R ≤ᵍ G → ⊥
    pub right_kept : (R L : Tree) → Has (right G) R → Has (left R) L → G ≤ᵍ L → ⊥
    pub left_ascends : Ascends (left G)
    pub right_ascends : Ascends (right G)

  abbrev mutual
    -- the tree is canonical: neither it nor a follower has a dominated or reversible option, or options out of order
    pub IsCanonical : Tree → Type 0
    IsCanonical (node ls rs) = IsReduced (node ls rs) × AreCanonical ls × AreCanonical rs

    -- each tree of the list is canonical
    pub AreCanonical : Trees → Type 0
    AreCanonical none = Unit {0}
    AreCanonical (more G Gs) = IsCanonical G × AreCanonical Gs

-- C is a canonical tree that is equal to G
pub record IsCanonicalOf (Before : Tree → Tree → Type 0) (G C : Tree) : Type 0 where
  pub canonical : IsCanonical Before C
  pub under : G ≤ᵍ C
  pub over : C ≤ᵍ G
