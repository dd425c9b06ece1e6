-- What holds under ko rules.
use Rattle.std.specs.Prelude.{ℕ, ℤ, ◌⊎◌, Bool, List}
use Rattle.go_grid.specs.declared.grid.Colour.{Colour}
use Rattle.go_grid.specs.Board.{Board}
use Rattle.go_grid.specs.Chain.{IsSettled}
use Rattle.go_grid.specs.Region.{Region}
use Rattle.region_cut.specs.Cut.{AreRegionsOfPlay}
use Rattle.whole_rules.specs.declared.states.Move.{Move}
use Rattle.whole_rules.specs.Opening.{IsOpening}
use Rattle.whole_rules.specs.Walls.{Plays}
use Rattle.whole_rules.specs.WholeGame.{Whole}
use Rattle.whole_budgets.specs.BudgetPlay.{WinsWithCaptures}
use Rattle.whole_budgets.specs.KoRules.{KoRule, IsPositionalSuperko, IsRuleOnReturns, IsSimpleKo, IsSituationalSuperko, IsWinnerUnder}

-- from each state that moves reach from the opening of a settled board, what a player wins without a capture that returns that
-- player wins under every rule on returns
abbrev pub NoCapturesWinUnderRules : Type 0
NoCapturesWinUnderRules = (g : Board) (regions : List Region) (black white : ℕ) (komi : ℤ) (side : Colour) (tax : Bool) (s t : Whole)
    (ms : List Move) → IsSettled g → AreRegionsOfPlay g regions → IsOpening g black white komi side tax s → Plays s ms t
    → (owner : Colour) → WinsWithCaptures regions owner t 0
    → (rule : KoRule) → IsRuleOnReturns regions rule → IsWinnerUnder rule t owner

-- the ko rules that are played are rules on returns
abbrev pub KoRulesAreOnReturns : Type 0
KoRulesAreOnReturns = (regions : List Region) (rule : KoRule) → IsSimpleKo rule ⊎ (IsSituationalSuperko rule ⊎ IsPositionalSuperko rule)
    → IsRuleOnReturns regions rule

-- there are such rules
abbrev pub KoRulesExist : Type 0
KoRulesExist = ((rule : KoRule) × IsSimpleKo rule) × ((rule : KoRule) × IsSituationalSuperko rule) × ((rule : KoRule) × IsPositionalSuperko rule)
