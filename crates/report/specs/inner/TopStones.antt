-- What of the best stones has been told.
use Rattle.std.specs.Prelude.{ℕ, ℤ, ◌≡◌, ◌≤◌, ◌-◌, ◌^◌, ◌++◌, List, flat_map, unsigned_abs, Option, None}
use Rattle.whole_rules.specs.WholeGame.{Whole}
use Rattle.report.specs.declared.top_stones.RatedStone.{RatedStone}
use Rattle.report.specs.TopStones.{AreBest, rated_text}

-- the threshold is so small that what it gains is a number of 64 bits
abbrev pub IsSmall : RatedStone → Type 0
IsSmall r = unsigned_abs r.threshold ≤ 2 ^ 47

-- the text tells n of the best stones, of which this one was the last, and the best ones behind it are the others
pub record HasTold (name : ℕ → List ℕ) (s : Whole) (k : ℤ) (n : ℕ) (last : Option RatedStone) (text : List ℕ) : Type 0 where
  pub told : List RatedStone
  pub text_is : text ≡ flat_map (rated_text name s.side k) told
  pub others : (more : List RatedStone) → AreBest s k (10 - n) last more → AreBest s k 10 None (told ++ more)
