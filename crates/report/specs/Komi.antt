-- A komi in a line.
use Rattle.std.specs.Prelude.{ℕ, ℤ, ◌++◌, List, codes}
use Rattle.board_words.specs.Komi.{komi_word}

-- a line of a label and a komi
unfoldable pub komi_line : List ℕ → ℤ → List ℕ
komi_line label k = label ++ (codes " " ++ (komi_word k ++ codes "\n"))

-- a line of a label and two komi
unfoldable pub komi_pair_line : List ℕ → ℤ → ℤ → List ℕ
komi_pair_line label k l = label ++ (codes " " ++ (komi_word k ++ (codes " " ++ (komi_word l ++ codes "\n"))))
