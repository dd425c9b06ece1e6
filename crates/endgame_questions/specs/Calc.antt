-- `calc`: the answer to an expression: what the status and the text of an expression are.
use Rattle.std.specs.Prelude.{◌≡◌, ◌++◌, ℕ, List, codes, decimal}
use Rattle.desk_io.specs.Desk.{Desk, Outside}
use Rattle.game_calc.specs.Answer.{IsAnswered, IsCalcRefusal}
use Rattle.game_calc.specs.declared.errors.CalcError.TheVariants as calc
use Rattle.game_calc.specs.declared.errors.CalcFault.{CalcFault}
use Rattle.game_calc.specs.declared.errors.CalcFault.TheVariants as fault
use Rattle.endgame_questions.specs.Written.{Reports}
use Rattle.endgame_questions.specs.declared.status.Status.{Status}
use Rattle.endgame_questions.specs.declared.status.Status.TheVariants.{Done, BadExpression, CalcLimit}

-- the line of what is wrong with an expression
unfoldable pub expression_line : List ℕ → List ℕ
expression_line what = codes "fault expression " ++ (what ++ codes "\n")

-- the line of what is wrong with an expression at a place
unfoldable pub expression_line_at : List ℕ → ℕ → List ℕ
expression_line_at what place = codes "fault expression " ++ (what ++ (codes " " ++ (decimal place ++ codes "\n")))

-- the line of a fault of an expression
abbrev pub expression_fault : CalcFault → List ℕ
expression_fault (fault.Byte place) = expression_line_at (codes "bad byte") place
expression_fault (fault.Number place) = expression_line_at (codes "bad number") place
expression_fault fault.CutShort = expression_line (codes "cut short")
expression_fault fault.Deep = expression_line (codes "too deep")

-- The status of an expression within a limit of parts, and its text: the answer, where none of the refusals meets it. No two of these
-- statuses can hold at once.
abbrev pub IsCalc : ℕ → List ℕ → Status → List ℕ → Type 0
IsCalc limit expression Done text = IsAnswered limit expression text
IsCalc limit expression (BadExpression f) text = IsCalcRefusal limit expression (calc.Fault f) × (text ≡ expression_fault f)
IsCalc limit expression CalcLimit text = IsCalcRefusal limit expression calc.Limit × (text ≡ codes "fault calc limit\n")
IsCalc limit expression s text = ⊥

-- what the run for an expression comes to, within a limit of parts
pub record RunsCalc {H S K : Type 0} (o : Outside H S K) (limit : ℕ) (expression : List ℕ) (a : Desk H S K) (status : Status) (b : Desk H S K) : Type 0 where
  pub written : Reports (IsCalc limit expression) (o.sinks.faults a.out) (o.sinks.faults b.out) (o.sinks.holds a.out) (o.sinks.holds b.out) status
  pub shelf_unread : b.shelf ≡ a.shelf
  pub lines_unread : b.lines ≡ a.lines
