-- What answering one line keeps.
use Rattle.std.specs.Prelude.{ℕ, ◌≡◌, List}
use Rattle.short_games.specs.Tree.{Tree}
use Rattle.game_text.specs.NamedText.{named_text}
use Rattle.game_lines.specs.Pictures.{Picture, IsPicture}
use Rattle.game_lines.specs.Showings.{IsUnshown, game_lines}
use Rattle.game_calc.specs.Expression.{Line}
use Rattle.game_calc.specs.declared.errors.CalcError.{CalcError}
use Rattle.game_calc.specs.declared.errors.CalcError.TheVariants as calc
use Rattle.game_calc.specs.Answer.{IsPastLimit}

-- why a line that was read has no answer
abbrev pub IsUnanswered : ℕ → Line → CalcError → Type 0
IsUnanswered limit line (calc.Fault f) = ⊥
IsUnanswered limit line calc.Limit = IsPastLimit limit line
IsUnanswered limit line (calc.Memory cause) = Unit {0}

-- the text has the lines that show the canonical tree C, and it can be shown
abbrev pub IsShown : Tree → List ℕ → Type 0
IsShown C text = (IsUnshown C → ⊥) × (drawn : Picture) × IsPicture C drawn × (text ≡ game_lines (named_text C) drawn)

-- why the canonical tree C isn't shown: it can't be, or there is want of memory
abbrev pub IsShownRefusal : Tree → CalcError → Type 0
IsShownRefusal C (calc.Fault f) = ⊥
IsShownRefusal C calc.Limit = IsUnshown C
IsShownRefusal C (calc.Memory cause) = Unit {0}
