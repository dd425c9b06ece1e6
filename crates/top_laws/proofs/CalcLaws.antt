-- An expression has one status.
use Rattle.std.proofs.Common.{◌≡◌, ◌+◌, ◌-◌, ◌⊎◌, ℕ, inl, inr, refl, sym, ap, subst, ◌∙◌, arith, List, length, Result, Ok, Err}
use Rattle.game_calc.specs.Answer.{IsCalcRefusal, IsPastLimit}
use Rattle.game_calc.specs.Expression.{Fault, Line, ReadsLine}
use Rattle.game_calc.specs.Expression.Fault.{stray, no_number, unfinished, deep, large}
use Rattle.game_calc.specs.declared.errors.CalcError.TheVariants as calc
use Rattle.game_calc.specs.declared.errors.CalcFault.{CalcFault}
use Rattle.game_calc.specs.declared.errors.CalcFault.TheVariants as fault
use Rattle.game_calc.proofs.OneLineLaws.{one-line}
use Rattle.endgame_questions.specs.declared.status.Status.{Status}
use Rattle.endgame_questions.specs.declared.status.Status.TheVariants as status
use Rattle.endgame_questions.specs.Calc.{IsCalc}
use Rattle.top_laws.specs.Laws.{ExpressionHasOneStatus}

-- the status of a line of so many bytes that is refused so
abbrev status_of : ℕ → Fault → Status
status_of whole (stray rest) = status.BadExpression (fault.Byte (whole - length rest))
status_of whole (no_number rest) = status.BadExpression (fault.Number (whole - length rest))
status_of whole unfinished = status.BadExpression fault.CutShort
status_of whole deep = status.BadExpression fault.Deep
status_of whole large = status.CalcLimit

place_is : (place behind whole : ℕ) → place + behind ≡ whole → place ≡ whole - behind
place_is place behind whole e = omega (arith, e)

-- the status by what the line is read as
abbrev IsRead : ℕ → List ℕ → Status → Type 0
IsRead limit expression s = ((line : Line) × ReadsLine limit expression (Ok line) × (((IsPastLimit limit line → ⊥) × (s ≡ status.Done)) ⊎ (IsPastLimit limit line × (s ≡ status.CalcLimit))))
    ⊎ ((f : Fault) × ReadsLine limit expression (Err f) × (s ≡ status_of (length expression) f))

refused_read : (limit : ℕ) (expression : List ℕ) (f : CalcFault) → IsCalcRefusal limit expression (calc.Fault f) → IsRead limit expression (status.BadExpression f)
refused_read limit expression (fault.Byte place) (rest, reads, at) = inr (stray rest, reads, ap (λ p. status.BadExpression (fault.Byte p)) (place_is place (length rest) (length expression) at))
refused_read limit expression (fault.Number place) (rest, reads, at) = inr (no_number rest, reads, ap (λ p. status.BadExpression (fault.Number p)) (place_is place (length rest) (length expression) at))
refused_read limit expression fault.CutShort reads = inr (unfinished, reads, refl)
refused_read limit expression fault.Deep reads = inr (deep, reads, refl)

calc_read : (limit : ℕ) (expression : List ℕ) (s : Status) (text : List ℕ) → IsCalc limit expression s text → IsRead limit expression s
calc_read limit expression status.Done text (line, reads, within, h) = inl (line, reads, inl (within, refl))
calc_read limit expression (status.BadExpression f) text (h, e) = refused_read limit expression f h
calc_read limit expression status.CalcLimit text (inl reads, e) = inr (large, reads, refl)
calc_read limit expression status.CalcLimit text (inr (line, reads, past), e) = inl (line, reads, inr (past, refl))
calc_read limit expression status.Usage text h = absurd h
calc_read limit expression status.CaptureLimit text h = absurd h
calc_read limit expression status.CannotRead text h = absurd h
calc_read limit expression status.CannotWrite text h = absurd h
calc_read limit expression (status.BadFile f) text h = absurd h
calc_read limit expression status.Cycle text h = absurd h
calc_read limit expression status.RegionLimit text h = absurd h
calc_read limit expression status.FormLimit text h = absurd h
calc_read limit expression status.Memory text h = absurd h
calc_read limit expression status.TooManyLines text h = absurd h
calc_read limit expression status.TooLong text h = absurd h

line_or_fault : (limit : ℕ) (expression : List ℕ) (line : Line) (f : Fault) → ReadsLine limit expression (Ok line) → ReadsLine limit expression (Err f) → ⊥
line_or_fault limit expression line f a b = let e : Path (Result Line Fault) (Ok line) (Err f) = one-line limit expression (Ok line) (Err f) a b in absurd cc

within_or_past : (limit : ℕ) (one other : Line) (s t : Status) → one ≡ other → ((IsPastLimit limit one → ⊥) × (s ≡ status.Done)) ⊎ (IsPastLimit limit one × (s ≡ status.CalcLimit))
    → ((IsPastLimit limit other → ⊥) × (t ≡ status.Done)) ⊎ (IsPastLimit limit other × (t ≡ status.CalcLimit)) → s ≡ t
within_or_past limit one other s t e (inl a) (inl b) = a.1 ∙ sym b.1
within_or_past limit one other s t e (inl a) (inr b) = absurd (a.0 (subst (IsPastLimit limit) (sym e) b.0))
within_or_past limit one other s t e (inr a) (inl b) = absurd (b.0 (subst (IsPastLimit limit) e a.0))
within_or_past limit one other s t e (inr a) (inr b) = a.1 ∙ sym b.1

one_read : (limit : ℕ) (expression : List ℕ) (s t : Status) → IsRead limit expression s → IsRead limit expression t → s ≡ t
one_read limit expression s t (inl (line, a, x)) (inl (other, b, y)) =
    let e : Path (Result Line Fault) (Ok line) (Ok other) = one-line limit expression (Ok line) (Ok other) a b in
    let same : line ≡ other = cc in within_or_past limit line other s t same x y
one_read limit expression s t (inl (line, a, x)) (inr (f, b, y)) = absurd (line_or_fault limit expression line f a b)
one_read limit expression s t (inr (f, a, x)) (inl (line, b, y)) = absurd (line_or_fault limit expression line f b a)
one_read limit expression s t (inr (f, a, x)) (inr (g, b, y)) =
    let e : Path (Result Line Fault) (Err f) (Err g) = one-line limit expression (Err f) (Err g) a b in
    let same : f ≡ g = cc in x ∙ ap (status_of (length expression)) same ∙ sym y

pub one_outcome : ExpressionHasOneStatus
one_outcome limit expression s t a b x y = one_read limit expression s t (calc_read limit expression s a x) (calc_read limit expression t b y)
