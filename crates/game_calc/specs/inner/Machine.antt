-- Where the reader stands in a line: the parentheses that are open, and what the rest of the line then comes to.
use Rattle.std.specs.Prelude.{ℕ, ◌≡◌, ◌+◌, ◌<◌, ◌≤◌, ◌⊎◌, List, [], ◌∷◌, ◌++◌, length, drop, slice_range, Option, Some, None, Result, Ok, Err}
use Rattle.short_games.specs.Tree.{Tree}
use Rattle.game_calc.specs.inner.Amounts.{IsTerm, IsBefore, IsHeld}
use Rattle.game_calc.specs.Expression.{Expression, Line, Fault, Outcome, ReadsTerm, ReadsTerms, ReadsLine, BehindFirst, BehindSecond, closed, kind, next, token, rest, sign_of, with_term}
use Rattle.game_calc.specs.Expression.Line.{value, order}
use Rattle.game_calc.specs.Expression.Fault.{stray, no_number, unfinished, deep, large}
use Rattle.game_calc.specs.Expression.Outcome.{reads, refused}
use Rattle.game_calc.specs.declared.amounts.Amount.{Amount}
use Rattle.game_calc.specs.declared.amounts.Opening.{Opening}
use Rattle.game_calc.specs.declared.amounts.Pass.{Pass}
use Rattle.game_calc.specs.declared.amounts.Sign.{Sign}
use Rattle.game_calc.specs.declared.errors.CalcError.{CalcError}
use Rattle.game_calc.specs.declared.errors.CalcError.TheVariants as calc
use Rattle.game_calc.specs.declared.errors.CalcFault.TheVariants as fault
use Rattle.game_calc.specs.declared.pending.Asked.{Asked}
use Rattle.game_calc.specs.declared.pending.Asked.TheVariants as asked
use Rattle.game_calc.specs.declared.pending.Pending.{Pending}
use Rattle.game_calc.specs.declared.pending.Place.{Place}
use Rattle.game_calc.specs.declared.pending.Place.TheVariants as due
use Rattle.game_calc.specs.declared.pending.Source.{Source}
use Rattle.game_calc.specs.declared.pending.Turn.{Turn}
use Rattle.game_calc.specs.declared.pending.Turn.TheVariants as turn
use Rattle.game_calc.specs.declared.tokens.Kind.TheVariants.{Game}
use Rattle.game_calc.specs.declared.tokens.Token.{Token}

-- what stands before a term: the terms of its sum so far, where there are some, and its sign
pub record Frame : Type 0 where
  pub before : Option Expression
  pub sign : Sign

-- what is due: a term, or what may stand behind one
pub data LineState : Type 0 where
  a_term : Frame → LineState
  behind_term : Expression → LineState

-- what a whole line comes to: what it asks for, or a fault
abbrev pub Answer : Type 0
Answer = Result Line Fault

module _ (limit : ℕ) where
  -- what the line comes to behind a term, where the terms of its sum so far are E, a token with this sign comes next, and Next
  -- tells it of the sum
  abbrev pub AfterTerm : (Outcome → Answer → Type 0) → ℕ → Expression → Option Sign → List ℕ → Answer → Type 0
  AfterTerm Next n E None bytes out = Next (reads E bytes) out
  AfterTerm Next n E (Some t) bytes out = (o : Outcome) × ReadsTerms limit n (Some E) t (rest bytes) o × Next o out

  -- what the line comes to behind a term, once it is known what the term comes to, where Next tells it of the sum
  abbrev pub BehindTerm : (Outcome → Answer → Type 0) → ℕ → Frame → Outcome → Answer → Type 0
  BehindTerm Next n f (reads F bytes) out = AfterTerm Next n (with_term f.before f.sign F) (sign_of (kind bytes)) bytes out
  BehindTerm Next n f (refused fault) out = out ≡ Err fault

  -- what the line comes to, once it is known what its first or its second sum does
  abbrev pub BehindLine : Option Expression → Outcome → Answer → Type 0
  BehindLine None o out = BehindFirst limit o out
  BehindLine (Some E) o out = BehindSecond limit E o out

  -- what the line comes to, once it is known what the sum within the open parentheses does, the innermost first
  abbrev pub BehindSum : List Frame → Option Expression → Outcome → Answer → Type 0
  BehindSum [] first o out = BehindLine first o out
  BehindSum (f ∷ fs) first o out = BehindTerm (BehindSum fs first) (length fs) f (closed o) out

  -- what the line comes to from a state on, with the bytes that are left
  abbrev pub Rest : LineState → List Frame → Option Expression → List ℕ → Answer → Type 0
  Rest (a_term f) fs first bytes out = (o : Outcome) × ReadsTerms limit (length fs) f.before f.sign bytes o × BehindSum fs first o out
  Rest (behind_term E) fs first bytes out = AfterTerm (BehindSum fs first) (length fs) E (sign_of (kind bytes)) bytes out

-- how the reader keeps what stands before a term
abbrev pub IsOpening : Pass → List Tree → ℕ → Frame → Opening → Type 0
IsOpening pass Ts limit f o = IsBefore pass Ts limit f.before o.before × (o.sign ≡ f.sign)

-- how the reader keeps what is due
abbrev pub IsState : Pass → List Tree → ℕ → LineState → Place → Type 0
IsState pass Ts limit (a_term f) (due.Term o) = IsOpening pass Ts limit f o
IsState pass Ts limit (behind_term E) (due.Behind a) = IsTerm pass Ts limit E a
IsState pass Ts limit s p = ⊥

-- how the reader keeps what stands before the open parentheses: the frames have the innermost first, the openings have it last
abbrev pub AreOpen : Pass → List Tree → ℕ → List Frame → List Opening → Type 0
AreOpen pass Ts limit [] opens = opens ≡ []
AreOpen pass Ts limit (f ∷ fs) opens = (below : List Opening) × (top : Opening) × (opens ≡ below ++ top ∷ []) × IsOpening pass Ts limit f top × AreOpen pass Ts limit fs below

-- the line comes to what its rest comes to from the place on
pub record IsReading (pass : Pass) (Ts : List Tree) (limit : ℕ) (text : List ℕ) (spot : ℕ) (p : Place) (opens : List Opening) (first : Option Amount) : Type 0 where
  pub state : LineState
  pub frames : List Frame
  pub before : Option Expression
  pub kept : IsState pass Ts limit state p
  pub open_frames : AreOpen pass Ts limit frames opens
  pub first_is : IsBefore pass Ts limit before first
  pub within : spot ≤ length text
  pub comes : (out : Answer) → Rest limit state frames before (drop spot text) out → ReadsLine limit text out

-- how the reader keeps what a line asks for
abbrev pub IsAsked : Pass → List Tree → ℕ → Line → Asked → Type 0
IsAsked pass Ts limit (value E) (asked.Value a) = IsTerm pass Ts limit E a
IsAsked pass Ts limit (order E F) (asked.Order a b) = IsTerm pass Ts limit E a × IsTerm pass Ts limit F b
IsAsked pass Ts limit line a = ⊥

-- the ids that are known of what a line asks for are ids of the store
abbrev pub IsAskedHeld : List Tree → Asked → Type 0
IsAskedHeld Ts (asked.Value a) = IsHeld Ts a
IsAskedHeld Ts (asked.Order a b) = IsHeld Ts a × IsHeld Ts b

-- the reader goes on further on in the line, or has read it all
abbrev pub IsTurn : Pass → List Tree → ℕ → List ℕ → ℕ → Turn → List Opening → Option Amount → Type 0
IsTurn pass Ts limit text spot (turn.Next step) opens first = IsReading pass Ts limit text step.at step.place opens first × (spot < step.at)
IsTurn pass Ts limit text spot (turn.Whole a) opens first = (line : Line) × ReadsLine limit text (Ok line) × IsAsked pass Ts limit line a

-- the line of a source comes to what its rest comes to from the place on, behind what is kept
abbrev pub IsLineDue : List Tree → Source → ℕ → Place → Pending → Type 0
IsLineDue Ts source spot p kept = IsReading source.pass Ts source.parts_limit source.text.now spot p kept.opens.items kept.first

-- the turn goes on further on in the line of a source, behind what is kept, or has read it all
abbrev pub GoesOnInLine : List Tree → Source → ℕ → Pending → Turn → Type 0
GoesOnInLine Ts source spot kept t = IsTurn source.pass Ts source.parts_limit source.text.now spot t kept.opens.items kept.first

-- the place in a text from which these bytes are left, counted from 0
abbrev pub IsPlaceInText : List ℕ → List ℕ → ℕ → Type 0
IsPlaceInText text bytes place = place + length bytes ≡ length text

-- how a fault of a line is told, with its place counted from 0
abbrev pub IsTold : List ℕ → Fault → CalcError → Type 0
IsTold text (stray bytes) e = (place : ℕ) × (e ≡ calc.Fault (fault.Byte place)) × IsPlaceInText text bytes place
IsTold text (no_number bytes) e = (place : ℕ) × (e ≡ calc.Fault (fault.Number place)) × IsPlaceInText text bytes place
IsTold text unfinished e = e ≡ calc.Fault fault.CutShort
IsTold text deep e = e ≡ calc.Fault fault.Deep
IsTold text large e = e ≡ calc.Limit

-- the refusal is want of memory
abbrev pub IsWantOfMemory : CalcError → Type 0
IsWantOfMemory (calc.Fault f) = ⊥
IsWantOfMemory calc.Limit = ⊥
IsWantOfMemory (calc.Memory cause) = Unit {0}

-- why a line is refused as it is read: there is want of memory, or the line comes to this fault
abbrev pub IsLineRefusal : ℕ → List ℕ → CalcError → Type 0
IsLineRefusal limit text e = IsWantOfMemory e ⊎ ((f : Fault) × ReadsLine limit text (Err f) × IsTold text f e)

-- why a token names no game that can be taken
abbrev pub IsGameRefusal : ℕ → List ℕ → ℕ → CalcError → Type 0
IsGameRefusal limit text spot e = IsWantOfMemory e ⊎ ((f : Fault) × ((n : ℕ) → ReadsTerm limit n (drop spot text) Game (refused f)) × IsTold text f e)

-- the next token from a place on
pub record IsTokenAt (text : List ℕ) (spot : ℕ) (t : Token) : Type 0 where
  pub kind_is : t.kind ≡ kind (drop spot text)
  pub start_is : drop t.start text ≡ next (drop spot text)
  pub token_is : slice_range text t.start t.end ≡ token (next (drop spot text))
  pub rest_is : drop t.end text ≡ rest (drop spot text)
  pub forward : (spot ≤ t.start) × (t.start ≤ t.end)
  pub within : t.end ≤ length text
