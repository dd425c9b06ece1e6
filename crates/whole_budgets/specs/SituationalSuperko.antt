-- Situational superko changes no winner where no half is left.
use Rattle.std.specs.Prelude.{◌≡◌}
use Rattle.go_grid.specs.declared.grid.Colour.{Colour}
use Rattle.whole_rules.specs.declared.money.Token.TheVariants.{Nobody}
use Rattle.whole_rules.specs.WholeGame.{Whole}
use Rattle.whole_rules.specs.FirstWinningMove.{IsWinner}
use Rattle.whole_budgets.specs.KoRules.{KoRule, IsSituationalSuperko, IsWinnerUnder}

-- from each state of each board in which nobody owns the token, who wins by plain recursion wins under situational superko
abbrev pub WinnersStandUnderSuperko : Type 0
WinnersStandUnderSuperko = (rule : KoRule) → IsSituationalSuperko rule → (s : Whole) (c : Colour) → s.purses.token ≡ Nobody → IsWinner s c
    → IsWinnerUnder rule s c
