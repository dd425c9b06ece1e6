-- Game trees: a tree is two lists of trees, its Left and its Right options.
use Rattle.std.specs.Prelude.{ℕ, suc, ◌+◌, ◌<◌, ◌≡◌, ◌⊎◌, List, length}
use Rattle.std.specs.List.{slice_index_or}

mutual
  -- a game tree: its Left options and its Right options
  pub data Tree : Type 0 where
    node : Trees → Trees → Tree

  -- a list of trees
  pub data Trees : Type 0 where
    none : Trees
    more : Tree → Trees → Trees

-- the Left options of a tree
abbrev pub left : Tree → Trees
left (node ls rs) = ls

-- the Right options of a tree
abbrev pub right : Tree → Trees
right (node ls rs) = rs

-- G is one of the list
abbrev pub Has : Trees → Tree → Type 0
Has none G = ⊥
Has (more H Hs) G = (G ≡ H) ⊎ Has Hs G

-- the trees of the one list and then those of the other
abbrev pub ◌then◌ : Trees → Trees → Trees
none then Gs = Gs
(more H Hs) then Gs = more H (Hs then Gs)

infixr 50 ◌then◌
unfoldable mutual
  -- how many nodes a tree has, each as often as it stands in the tree
  pub size : Tree → ℕ
  size (node ls rs) = suc (sizes ls + sizes rs)

  -- how many nodes the trees of a list have together
  pub sizes : Trees → ℕ
  sizes none = 0
  sizes (more G Gs) = size G + sizes Gs

unfoldable mutual
  -- the negative of a tree: the sides are exchanged at every level
  pub neg : Tree → Tree
  neg (node ls rs) = node (neg_each rs) (neg_each ls)

  -- the negatives of the trees of a list
  pub neg_each : Trees → Trees
  neg_each none = none
  neg_each (more G Gs) = more (neg G) (neg_each Gs)

-- the tree at a place of a list, one without options past the last
abbrev pub tree_at : List Tree → ℕ → Tree
tree_at Ts i = slice_index_or Ts i (node none none)

-- the trees of a list differ from one another
abbrev pub AreDistinct : List Tree → Type 0
AreDistinct Ts = (i j : ℕ) → i < length Ts → j < length Ts → tree_at Ts i ≡ tree_at Ts j → i ≡ j
