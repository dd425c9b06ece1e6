-- The text of a tree, where `number` gives the text of a tree that is a number's.
use Rattle.std.specs.Prelude.{ℕ, List, ◌∷◌, ◌++◌, Option, Some, None}
use Rattle.short_games.specs.Tree.{Tree, Trees, node, none, more}

-- the byte `{`
abbrev pub open_brace : ℕ
open_brace = 123

-- the byte `|`
abbrev pub bar : ℕ
bar = 124

-- the byte `}`
abbrev pub close_brace : ℕ
close_brace = 125

-- the byte `,`
abbrev pub comma : ℕ
comma = 44

-- the number's text, with s behind it, where there is one; else the text with braces
abbrev pub text_or : Option (List ℕ) → List ℕ → List ℕ → List ℕ
text_or (Some t) braces s = t ++ s
text_or None braces s = braces

module _ (number : Tree → Option (List ℕ)) where
  unfoldable mutual
    -- the text of a tree, with s behind it
    pub text : Tree → List ℕ → List ℕ
    text (node ls rs) s = text_or (number (node ls rs)) (open_brace ∷ texts ls (bar ∷ texts rs (close_brace ∷ s))) s

    -- the texts of a list of trees with a comma between two, with s behind them
    pub texts : Trees → List ℕ → List ℕ
    texts none s = s
    texts (more G Gs) s = text G (texts_rest Gs s)

    -- the texts of a list of trees with a comma before each, with s behind them
    pub texts_rest : Trees → List ℕ → List ℕ
    texts_rest none s = s
    texts_rest (more G Gs) s = comma ∷ text G (texts_rest Gs s)
