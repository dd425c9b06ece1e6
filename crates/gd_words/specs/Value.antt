-- The values that single words stand for: numbers and answers.
use Rattle.std.specs.Prelude.{◌≤◌, ℕ, List, Bool, true, false, codes}
use Rattle.board_words.specs.Numbers.{IsNumberWord}

-- one to ten decimal digits, which write a number of the range
pub record IsNumberWithin (low high : ℕ) (word : List ℕ) (n : ℕ) : Type 0 where
  pub number : IsNumberWord word n
  pub least : low ≤ n
  pub most : n ≤ high

-- the word for yes or no
abbrev pub answer_word : Bool → List ℕ
answer_word true = codes "yes"
answer_word false = codes "no"
