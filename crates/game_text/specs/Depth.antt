-- How deep the braces of a tree's text nest.
use Rattle.std.specs.Prelude.{ℕ, suc, max, Option, Some, None}
use Rattle.short_games.specs.Tree.{Tree, Trees, node, none, more}
use Rattle.short_games.specs.NumberText.{Fraction, number_of}

-- the most brackets that may be open at once
abbrev pub most_open : ℕ
most_open = 1000

-- how deep braces nest: 0 where the text is a number's
abbrev pub depth_or : Option Fraction → ℕ → ℕ
depth_or (Some x) braces = 0
depth_or None braces = braces

unfoldable mutual
  -- how deep the braces of a tree's text nest: 0 for a number's tree, else one more than the greatest depth of an option
  pub depth : Tree → ℕ
  depth (node ls rs) = depth_or (number_of (node ls rs)) (suc (max (depths ls) (depths rs)))

  -- the greatest depth of the trees of a list, 0 where there is none
  pub depths : Trees → ℕ
  depths none = 0
  depths (more G Gs) = max (depth G) (depths Gs)
