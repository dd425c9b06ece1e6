-- The texts of trees, and lists in ascending order of their texts.
use Rattle.std.specs.Prelude.{ℕ, Bool, true, false, cond, nat_lt, nat_eq, List, [], ◌∷◌, IsTrue}
use Rattle.short_games.specs.Tree.{Tree, Trees, none, more}
use Rattle.short_games.specs.Text.{text}
use Rattle.short_games.specs.NumberText.{number_text}
use Rattle.short_games.specs.Canonical.{IsCanonical, IsCanonicalOf}

-- the text of a tree: a number's where the tree is one, else braces
unfoldable pub tree_text : Tree → List ℕ
tree_text G = text number_text G []

-- whether the first text is before the second by their bytes
unfoldable pub lesser_text : List ℕ → List ℕ → Bool
lesser_text [] [] = false
lesser_text [] (y ∷ ys) = true
lesser_text (x ∷ xs) [] = false
lesser_text (x ∷ xs) (y ∷ ys) = cond (nat_eq x y) (lesser_text xs ys) (nat_lt x y)

-- whether the text of G is before that of H
unfoldable pub text_before : Tree → Tree → Bool
text_before G H = lesser_text (tree_text G) (tree_text H)

-- the ascending list with G at its place, or as it is where it has a tree of the same text already
unfoldable pub insert : Tree → Trees → Trees
insert G none = more G none
insert G (more H Hs) = cond (text_before G H) (more G (more H Hs)) (cond (text_before H G) (more H (insert G Hs)) (more H Hs))

-- the trees of a list in ascending order, each once
unfoldable pub sorted : Trees → Trees
sorted none = none
sorted (more G Gs) = insert G (sorted Gs)

-- the text of G is before that of H
abbrev pub TextBefore : Tree → Tree → Type 0
TextBefore G H = IsTrue (text_before G H)

-- a canonical tree, with options in the order of their texts
abbrev pub IsCanonicalTree : Tree → Type 0
IsCanonicalTree G = IsCanonical TextBefore G

-- C is the canonical tree of G
abbrev pub IsCanonicalFor : Tree → Tree → Type 0
IsCanonicalFor G C = IsCanonicalOf TextBefore G C
