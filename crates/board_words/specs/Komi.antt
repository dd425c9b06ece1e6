-- A komi in a text: in points, with a half where one is left.
use Rattle.std.specs.Prelude.{ℕ, zero, suc, ℤ, pos, negsuc, unsigned_abs, ◌/◌, ◌%◌, ◌++◌, List, [], codes, decimal}

-- the sign of a komi
abbrev pub sign_word : ℤ → List ℕ
sign_word (pos n) = []
sign_word (negsuc n) = codes "-"

-- what is left of a komi but its whole points
abbrev pub rest_word : ℕ → List ℕ
rest_word zero = []
rest_word (suc n) = codes ".5"

-- a komi of so many half-points, in points
abbrev pub komi_word : ℤ → List ℕ
komi_word k = sign_word k ++ (decimal (unsigned_abs k / 2) ++ rest_word (unsigned_abs k % 2))
