-- The lines of faults.
use Rattle.std.specs.Prelude.{ℕ, List, ◌++◌, codes, decimal}

-- the line of what is wrong with a file
unfoldable pub fault_line : List ℕ → List ℕ
fault_line what = codes "fault file " ++ (what ++ codes "\n")

-- the line of what is wrong with a file, with a number behind it
unfoldable pub fault_line_at : List ℕ → ℕ → List ℕ
fault_line_at what n = codes "fault file " ++ (what ++ (codes " " ++ (decimal n ++ codes "\n")))
