-- The law of lines.
use Rattle.std.specs.Prelude.{ℕ, ◌≡◌, List, Result}
use Rattle.game_calc.specs.Expression.{Line, Fault, ReadsLine}

-- reading a line comes to one thing
abbrev pub OneLineReading : Type 0
OneLineReading = (limit : ℕ) (text : List ℕ) (one other : Result Line Fault) → ReadsLine limit text one → ReadsLine limit text other → one ≡ other
