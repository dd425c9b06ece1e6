-- Ko rules: they forbid moves, by the play so far.
use Rattle.std.specs.Prelude.{ℕ, ◌≡◌, ◌⊎◌, ◌↔◌, List, [], ◌∷◌, Contains, Bool, true}
use Rattle.go_grid.specs.declared.grid.Colour.{Colour}
use Rattle.go_grid.specs.Board.{other}
use Rattle.go_grid.specs.Region.{Region}
use Rattle.whole_rules.specs.declared.states.Move.{Move}
use Rattle.whole_rules.specs.declared.states.Move.TheVariants.{Stone}
use Rattle.whole_rules.specs.PlainRecursion.{MoverWins, MoverLoses}
use Rattle.whole_rules.specs.WholeGame.{Whole, IsMove}
use Rattle.whole_budgets.specs.BudgetPlay.{IsReturningCapture}

-- the play so far: the present state, and those before it, the latest first
pub record History : Type 0 where
  pub state : Whole
  pub past : List Whole

-- a ko rule tells of the play so far, a move and the state that it leads to whether the move is forbidden
abbrev pub KoRule : Type 0
KoRule = History → Move → Whole → Bool

-- the rule forbids the move
abbrev pub Forbids : KoRule → History → Move → Whole → Type 0
Forbids rule p m t = rule p m t ≡ true

-- some move that the rule doesn't forbid leads from the one to the other
abbrev pub LeadsUnder : KoRule → History → History → Type 0
LeadsUnder rule p q = (m : Move) × IsMove p.state m q.state × ¬ Forbids rule p m q.state × (q.past ≡ p.state ∷ p.past)

-- the play that begins with the state
abbrev pub beginning : Whole → History
beginning s = record { state = s; past = [] }

-- the player wins under the rule where play begins with the state
abbrev pub IsWinnerUnder : KoRule → Whole → Colour → Type 0
IsWinnerUnder rule s c = ((c ≡ s.side) × MoverWins History (LeadsUnder rule) (beginning s))
    ⊎ ((c ≡ other s.side) × MoverLoses History (LeadsUnder rule) (beginning s))

-- the stone leads to the board of the present state or of one before it
abbrev pub RepeatsBoard : History → Move → Whole → Type 0
RepeatsBoard p m t = (x : ℕ) × (m ≡ Stone x) × ((u : Whole) × Contains (p.state ∷ p.past) u × (u.board ≡ t.board))

-- simple ko: no stone leads to the board before the last move
abbrev pub IsSimpleKo : KoRule → Type 0
IsSimpleKo rule = (p : History) (m : Move) (t : Whole) → Forbids rule p m t
    ↔ ((x : ℕ) × (m ≡ Stone x) × ((u : Whole) × (rest : List Whole) × (p.past ≡ u ∷ rest) × (u.board ≡ t.board)))

-- situational superko: no stone leads to a board of the play on which the player was to move who then is
abbrev pub IsSituationalSuperko : KoRule → Type 0
IsSituationalSuperko rule = (p : History) (m : Move) (t : Whole) → Forbids rule p m t
    ↔ ((x : ℕ) × (m ≡ Stone x) × ((u : Whole) × Contains (p.state ∷ p.past) u × (u.side ≡ t.side) × (u.board ≡ t.board)))

-- positional superko: no stone leads to a board of the play
abbrev pub IsPositionalSuperko : KoRule → Type 0
IsPositionalSuperko rule = (p : History) (m : Move) (t : Whole) → Forbids rule p m t ↔ RepeatsBoard p m t

-- the rule forbids only captures that return, and stones after which the board is that of a state of the play
abbrev pub IsRuleOnReturns : List Region → KoRule → Type 0
IsRuleOnReturns regions rule = (p : History) (m : Move) (t : Whole) → Forbids rule p m t
    → ((r : Region) × Contains regions r × IsReturningCapture r p.state m t) ⊎ RepeatsBoard p m t
