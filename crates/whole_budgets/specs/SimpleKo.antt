-- Simple ko changes no winner.
use Rattle.go_grid.specs.declared.grid.Colour.{Colour}
use Rattle.whole_rules.specs.WholeGame.{Whole}
use Rattle.whole_rules.specs.FirstWinningMove.{IsWinner}
use Rattle.whole_budgets.specs.KoRules.{KoRule, IsSimpleKo, IsWinnerUnder}

-- from each state of each board, who wins by plain recursion wins under simple ko
abbrev pub WinnersStandUnderSimpleKo : Type 0
WinnersStandUnderSimpleKo = (rule : KoRule) → IsSimpleKo rule → (s : Whole) (c : Colour) → IsWinner s c → IsWinnerUnder rule s c
