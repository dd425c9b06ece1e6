-- The answer to a line, and why there is none.
use Rattle.std.specs.Prelude.{ℕ, ◌≡◌, ◌+◌, ◌⊎◌, List, length, codes, Ok, Err}
use Rattle.short_games.specs.Tree.{Tree}
use Rattle.short_games.specs.TextOrder.{IsCanonicalFor}
use Rattle.game_text.specs.NamedText.{named_text}
use Rattle.game_canon.specs.Orders.{IsOrder}
use Rattle.game_canon.specs.declared.order.Order.{Order}
use Rattle.game_canon.specs.declared.order.Order.TheVariants.{Less, Equal, Greater, Confused}
use Rattle.board_words.specs.Words.{word_line}
use Rattle.game_lines.specs.Pictures.{Picture, IsPicture}
use Rattle.game_lines.specs.Showings.{IsUnshown, game_lines}
use Rattle.game_calc.specs.Expression.{Line, Fault, ReadsLine, tree_of, HasStepOutOfLimits}
use Rattle.game_calc.specs.Expression.Line.{value, order}
use Rattle.game_calc.specs.Expression.Fault.{stray, no_number, unfinished, deep, large}
use Rattle.game_calc.specs.declared.errors.CalcError.{CalcError}
use Rattle.game_calc.specs.declared.errors.CalcError.TheVariants as calc
use Rattle.game_calc.specs.declared.errors.CalcFault.TheVariants as fault

-- the word for how two games compare
abbrev pub order_word : Order → List ℕ
order_word Less = codes "less"
order_word Equal = codes "equal"
order_word Greater = codes "greater"
order_word Confused = codes "confused"

-- the line of the order of two trees
abbrev pub IsOrderText : Tree → Tree → List ℕ → Type 0
IsOrderText G H text = (o : Order) × IsOrder o G H × (text ≡ word_line (codes "order") (order_word o))

-- the lines that show the canonical tree of a sum, or the line of the order of two
abbrev pub IsLineAnswer : Line → List ℕ → Type 0
IsLineAnswer (value E) text = (C : Tree) × IsCanonicalFor (tree_of E) C × (drawn : Picture) × IsPicture C drawn × (text ≡ game_lines (named_text C) drawn)
IsLineAnswer (order E F) text = IsOrderText (tree_of E) (tree_of F) text

-- a step is out of limits, or the value isn't shown
abbrev pub IsPastLimit : ℕ → Line → Type 0
IsPastLimit limit (value E) = HasStepOutOfLimits limit E ⊎ ((C : Tree) → IsCanonicalFor (tree_of E) C → IsUnshown C)
IsPastLimit limit (order E F) = HasStepOutOfLimits limit E ⊎ HasStepOutOfLimits limit F

-- the line is read and within the limits, and the text is its answer
abbrev pub IsAnswered : ℕ → List ℕ → List ℕ → Type 0
IsAnswered limit expression text = (line : Line) × ReadsLine limit expression (Ok line) × (IsPastLimit limit line → ⊥) × IsLineAnswer line text

-- the line is refused with a fault at this place, counted from 0
abbrev pub RefusesLineAt : ℕ → List ℕ → (List ℕ → Fault) → ℕ → Type 0
RefusesLineAt limit expression f place = (rest : List ℕ) × ReadsLine limit expression (Err (f rest)) × (place + length rest ≡ length expression)

-- why a line has no answer: it is refused with a fault, it is past a limit, or there is want of memory
abbrev pub IsCalcRefusal : ℕ → List ℕ → CalcError → Type 0
IsCalcRefusal limit expression (calc.Fault (fault.Byte place)) = RefusesLineAt limit expression stray place
IsCalcRefusal limit expression (calc.Fault (fault.Number place)) = RefusesLineAt limit expression no_number place
IsCalcRefusal limit expression (calc.Fault fault.CutShort) = ReadsLine limit expression (Err unfinished)
IsCalcRefusal limit expression (calc.Fault fault.Deep) = ReadsLine limit expression (Err deep)
IsCalcRefusal limit expression calc.Limit = ReadsLine limit expression (Err large) ⊎ ((line : Line) × ReadsLine limit expression (Ok line) × IsPastLimit limit line)
IsCalcRefusal limit expression (calc.Memory cause) = Unit {0}
