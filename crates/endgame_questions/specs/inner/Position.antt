-- A position on the main line.
use Rattle.std.specs.Prelude.{◌<◌, ◌*◌, ℕ, List, codes}
use Rattle.sgf_tree.specs.Grammar.{PropertyText}
use Rattle.sgf_go.specs.Setup.{IsBoardSize, value_of, root}
use Rattle.sgf_go.specs.Values.{Extent}

-- the point lies on a board of the size that the main line gives
abbrev pub IsOnLine : List (List PropertyText) → ℕ → Type 0
IsOnLine l p = (e : Extent) × IsBoardSize (value_of (codes "SZ") (root l)) e × (p < e.columns * e.rows)
