-- What is remembered while the positions of a graph are valued.
use Rattle.std.specs.Prelude.{ℕ, List}
use Rattle.short_games.specs.Tree.{Tree}
use Rattle.game_canon.specs.FormComparisons.{AreFormComparisonsRight}
use Rattle.local_value.specs.Remembered.{AreStonesSumsRight, AreKnownRight, Remembered}
use Rattle.local_value.specs.declared.memo.Forms.{Forms}
use Rattle.local_value.specs.declared.memo.Memo.{Memo}

-- the forms that are remembered are right, and so are the comparisons
pub record AreFormsRight (Ts : List Tree) (limit : ℕ) (forms : Forms) : Type 0 where
  pub known : AreKnownRight Ts limit forms.table
  pub comparisons : AreFormComparisonsRight Ts forms.comparisons

-- all that is remembered is right
pub record IsMemoRight (Ts : List Tree) (limit : ℕ) (memo : Memo) : Type 0 where
  pub sums : AreStonesSumsRight Ts memo.sums
  pub forms : AreFormsRight Ts limit memo.forms

-- what callers see of all that is remembered
abbrev pub remembered : Memo → Remembered
remembered memo = record { sums = memo.sums; forms = memo.forms.table; comparisons = memo.forms.comparisons }
