-- Names of points.
use Rattle.std.specs.Prelude.{ℕ, List}
use Rattle.go_grid.specs.Name.{point_name}
use Rattle.gtp_words.specs.Vertices.{vertex_text}
use Rattle.fault_words.specs.declared.naming.Naming.{Naming}
use Rattle.fault_words.specs.declared.naming.Naming.TheVariants.{Letters, Gtp}

-- the name of a point of a board of so many columns and rows
abbrev pub name_by : Naming → ℕ → ℕ → ℕ → List ℕ
name_by Letters columns rows p = point_name columns p
name_by Gtp columns rows p = vertex_text columns rows p
