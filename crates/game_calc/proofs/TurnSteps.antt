-- What each token of a line leads to, and how faults are told.
use Rattle.std.proofs.Common.{ℕ, ◌+◌, ◌<◌, ◌≤◌, ◌≡◌, ◌++◌, ◌∷◌, [], List, length, drop, arith, inl, inr, ap, refl, sym, subst, ◌∙◌, Some, None}
use Rattle.std.specs.Prelude.{Option, Result, Ok, Err, IfErr, slice_range, Bool, true, false, nat_eq}
use Rattle.std.proofs.lemmas.Bool.{cases_lt, eqb-true, eq-eqb, true≢false}
use Rattle.std.proofs.lemmas.List.{length-append, length-drop}
use Rattle.std.proofs.lemmas.List.Folds.{drop_split}
use Rattle.short_games.specs.Tree.{Tree}
use Rattle.game_store.specs.Meaning.{Extends}
use Rattle.game_text.specs.Reading.{ReadsText, RefusesText, IsReadRefusal, Fault as NameFault}
use Rattle.game_text.specs.declared.errors.ReadError.{ReadError}
use Rattle.game_text.specs.Reading.Fault.{bad_byte, bad_number, cut_short}
use Rattle.game_canon.specs.Outcomes.{IsCanonicalId}
use Rattle.game_canon.proofs.ChangedIdLaws.{extends-on}
use Rattle.game_calc.specs.inner.Amounts.{IsTerm, IsBefore, IsHeldBefore}
use Rattle.game_calc.specs.Expression.{Expression, ReadsTerm, ReadsTerms, ReadsLine, BeginsNoTerm, fault_of, kind, next, token, rest, with_term, first_sign, first_bytes}
use Rattle.game_text.specs.Depth.{most_open}
use Rattle.game_calc.specs.Expression.Expression.{game}
use Rattle.game_calc.specs.Expression.Fault.{stray, unfinished, deep}
use Rattle.game_calc.specs.Expression.Outcome.{refused}
use Rattle.game_calc.specs.Expression.ReadsTerm.{a_game, one_too_deep, none_left, no_term}
use Rattle.game_calc.specs.inner.Machine.{IsReading, IsState, IsTokenAt, IsTurn, IsTold, IsLineRefusal, IsGameRefusal}
use Rattle.game_calc.specs.inner.Machine.LineState.{a_term}
use Rattle.game_calc.specs.declared.amounts.Amount.{Amount}
use Rattle.game_calc.specs.declared.amounts.Amount.TheVariants.{Known}
use Rattle.game_calc.specs.declared.amounts.Opening.{Opening}
use Rattle.game_calc.specs.declared.amounts.Pass.{Pass}
use Rattle.game_calc.specs.declared.errors.CalcError.{CalcError}
use Rattle.game_calc.specs.declared.errors.CalcError.TheVariants as calc
use Rattle.game_calc.specs.declared.errors.CalcFault.TheVariants as fault
use Rattle.game_calc.specs.declared.pending.Place.{Place}
use Rattle.game_calc.specs.declared.pending.Place.TheVariants as due
use Rattle.game_calc.specs.declared.pending.Turn.TheVariants as turn
use Rattle.game_calc.specs.declared.tokens.Kind.{Kind}
use Rattle.game_calc.specs.declared.tokens.Kind.TheVariants.{End, Open, Close, Query, Game}
use Rattle.game_calc.specs.declared.tokens.Token.{Token}
use Rattle.game_calc.proofs.AmountSteps.{game-taken_as}
use Rattle.game_calc.proofs.LineSteps.{IsTermDue, IsBehindTerm, term-due, term-behind, named-turn, group-turn, term-refused, before-kept, before-held, open-length}
use Rattle.game_calc.proofs.BehindSteps.{IsClosing, closing, closed-turn, query-turn}

-- what the exit of a `?` says of the error that it passes on
pub passed : {A : Type 0} (r : Result A CalcError) (x : CalcError) (P : CalcError → Type 0) → (y : CalcError) × (r ≡ Err y) × (y ≡ x) → P x → IfErr r P
passed r x P q p = subst (λ z. IfErr z P) (sym q.1) (subst P (sym q.2) p)

pub refused-as : (limit : ℕ) (text : List ℕ) (e f : ReadError) → e ≡ f → IsReadRefusal limit text e → IsReadRefusal limit text f
refused-as limit text e f s = subst (IsReadRefusal limit text) s

-- how faults are told
module _ (limit : ℕ) (text : List ℕ) (spot : ℕ) (t : Token) (w : IsTokenAt text spot t) where
  pub stray-told : ReadsLine limit text (Err (stray (next (drop spot text)))) → IsLineRefusal limit text (calc.Fault (fault.Byte t.start))
  stray-told r = inr (stray (next (drop spot text)), r, (t.start, refl, omega (arith, ap length w.start_is, length-drop t.start text, w.within, w.forward.1)))

  rest-length : t.end + length (rest (drop spot text)) ≡ length text
  rest-length = omega (arith, ap length w.rest_is, length-drop t.end text, w.within)

  name-length : length (slice_range text t.start t.end) + t.start ≡ t.end
  name-length = omega (arith, ap length (drop_split text t.start t.end w.forward.1), length-append (slice_range text t.start t.end) (drop t.end text), length-drop t.start text, length-drop t.end text, w.within, w.forward.1)

  pub other-told : (f : NameFault) (e : CalcError) → RefusesText limit (slice_range text t.start t.end) f → IsTold text (fault_of f (rest (drop spot text))) e → IsGameRefusal limit text spot e
  other-told f e h told = inr (fault_of f (rest (drop spot text)), (λ n. a_game n (drop spot text) (Err f) (subst (λ z. ReadsText limit z (Err f)) w.token_is h)), told)

  name-place : (place : ℕ) (xs : List ℕ) → place + length xs ≡ length (slice_range text t.start t.end) → (t.start + place) + length (xs ++ rest (drop spot text)) ≡ length text
  name-place place xs e = omega (arith, e, length-append xs (rest (drop spot text)), rest-length, name-length)

  pub byte-told : (place : ℕ) → (xs : List ℕ) × RefusesText limit (slice_range text t.start t.end) (bad_byte xs) × (place + length xs ≡ length (slice_range text t.start t.end)) → IsGameRefusal limit text spot (calc.Fault (fault.Byte (t.start + place)))
  byte-told place (xs, h, e) = other-told (bad_byte xs) _ h (t.start + place, refl, name-place place xs e)

  pub number-told : (place : ℕ) → (xs : List ℕ) × RefusesText limit (slice_range text t.start t.end) (bad_number xs) × (place + length xs ≡ length (slice_range text t.start t.end)) → IsGameRefusal limit text spot (calc.Fault (fault.Number (t.start + place)))
  number-told place (xs, h, e) = other-told (bad_number xs) _ h (t.start + place, refl, name-place place xs e)

  pub blank-told : RefusesText limit (slice_range text t.start t.end) cut_short → t.end < length text → IsGameRefusal limit text spot (calc.Fault (fault.Byte t.end))
  blank-told h l = other-told cut_short _ h (at (rest (drop spot text)) rest-length)
    where
      at : (ys : List ℕ) → t.end + length ys ≡ length text → IsTold text (fault_of cut_short ys) (calc.Fault (fault.Byte t.end))
      at [] e = absurd (omega (arith, l, e))
      at (y ∷ ys) e = (t.end, refl, e)

  pub end-told : RefusesText limit (slice_range text t.start t.end) cut_short → (t.end < length text → ⊥) → IsGameRefusal limit text spot (calc.Fault fault.CutShort)
  end-told h l = other-told cut_short _ h (at (rest (drop spot text)) rest-length)
    where
      at : (ys : List ℕ) → t.end + length ys ≡ length text → IsTold text (fault_of cut_short ys) (calc.Fault fault.CutShort)
      at [] e = refl
      at (y ∷ ys) e = absurd (l (omega (arith, e)))

pub cut-told : (limit : ℕ) (text : List ℕ) → ReadsLine limit text (Err unfinished) → IsLineRefusal limit text (calc.Fault fault.CutShort)
cut-told limit text r = inr (unfinished, r, refl)

-- where a term is due
module _ (pass : Pass) (Ts : List Tree) (limit : ℕ) (text : List ℕ) (spot : ℕ) (o : Opening) (opens : List Opening) (first : Option Amount) (w : IsReading pass Ts limit text spot (due.Term o) opens first) (t : Token) (at : IsTokenAt text spot t) where
  d : IsTermDue pass Ts limit text spot o opens first
  d = term-due pass Ts limit text spot o opens first w

  pub term-held : (Us : List Tree) → Extends Ts Us → IsHeldBefore Us o.before
  term-held Us x = before-held pass Us limit d.frame.before o.before (before-kept pass Ts Us limit d.frame.before o.before x d.opening.0)

  pub game-refused : (e : CalcError) → t.kind ≡ Game → IsGameRefusal limit text spot e → IsLineRefusal limit text e
  game-refused e k (inl m) = inl m
  game-refused e k (inr (f, h, told)) = inr (f, term-refused pass Ts limit text spot o opens first d f (subst (λ k. ReadsTerm limit (length d.frames) (drop spot text) k (refused f)) (sym k ∙ at.kind_is) (h (length d.frames))), told)

  pub game-taken : (Us Vs : List Tree) (G : Tree) (id : ℕ) (a : Amount) → Extends Ts Us → Extends Us Vs → t.start < t.end → t.kind ≡ Game → ReadsText limit (token (next (drop spot text))) (Ok G) → IsCanonicalId Us G id
      → ((b : Option Expression) (F : Expression) → IsBefore pass Us limit b o.before → IsTerm pass Us limit F (Known id) → IsTerm pass Vs limit (with_term b o.sign F) a)
      → IsTurn pass Vs limit text spot (turn.Next (record { at = t.end; place = due.Behind a })) opens first
  game-taken Us Vs G id a x y some k names i sum = (
    named-turn pass Ts limit text spot o opens first d Vs t G a (extends-on Ts Us Vs x y) at k names
        (subst (λ s. IsTerm pass Vs limit (with_term d.frame.before s (game G)) a) d.opening.1 (sum d.frame.before (game G) (before-kept pass Ts Us limit d.frame.before o.before x d.opening.0) (game-taken_as pass Us limit G id i))),
    omega (arith, some, at.forward.0),
  )

  pub group-opened : (step_at : ℕ) (p : Place) (us : List Opening) → t.start < t.end → t.kind ≡ Open → length opens < most_open → us ≡ opens ++ o ∷ []
      → p ≡ due.Term (record { before = None; sign = first_sign (kind (drop t.end text)) }) → drop step_at text ≡ first_bytes (kind (drop t.end text)) (drop t.end text) → t.end ≤ step_at → step_at ≤ length text
      → IsTurn pass Ts limit text spot (turn.Next (record { at = step_at; place = p })) us first
  group-opened step_at p us some k few e place bytes forward within = (group-turn pass Ts limit text spot o opens first d t step_at p us at k few e place bytes within, omega (arith, some, at.forward.0, forward))

  pub group-deep : t.kind ≡ Open → (length opens < most_open → ⊥) → IsLineRefusal limit text (calc.Fault fault.Deep)
  group-deep k many = inr (
    deep,
    term-refused pass Ts limit text spot o opens first d deep (subst (λ k. ReadsTerm limit (length d.frames) (drop spot text) k (refused deep)) (sym k ∙ at.kind_is)
        (one_too_deep (length d.frames) (drop spot text) (omega (arith, many, open-length pass Ts limit d.frames opens d.open_frames)))),
    refl,
  )

  pub none-due : t.kind ≡ End → IsLineRefusal limit text (calc.Fault fault.CutShort)
  none-due k = cut-told limit text (term-refused pass Ts limit text spot o opens first d unfinished (subst (λ k. ReadsTerm limit (length d.frames) (drop spot text) k (refused unfinished)) (sym k ∙ at.kind_is) (none_left (length d.frames) (drop spot text))))

  pub stray-due : (k : Kind) → t.kind ≡ k → BeginsNoTerm k → IsLineRefusal limit text (calc.Fault (fault.Byte t.start))
  stray-due k e b = stray-told limit text spot t at (term-refused pass Ts limit text spot o opens first d (stray (next (drop spot text))) (subst (λ k. ReadsTerm limit (length d.frames) (drop spot text) k (refused (stray (next (drop spot text))))) (sym e ∙ at.kind_is)
      (no_term (length d.frames) (drop spot text) k b)))

-- a parenthesis is closed
module _ (pass : Pass) (Ts : List Tree) (limit : ℕ) (text : List ℕ) (spot : ℕ) (a : Amount) (opens : List Opening) (first : Option Amount) (w : IsReading pass Ts limit text spot (due.Behind a) opens first) (t : Token) (at : IsTokenAt text spot t) (k : t.kind ≡ Close) where
  b : IsBehindTerm pass Ts limit text spot a opens first
  b = term-behind pass Ts limit text spot a opens first w

  module _ (o : Opening) (us : List Opening) (e : opens ≡ us ++ o ∷ []) where
    c : IsClosing pass Ts limit text spot a opens first b o us
    c = closing pass Ts limit text spot a opens first b o us (sym at.kind_is ∙ k) e

    pub closed-held : IsHeldBefore Ts o.before
    closed-held = before-held pass Ts limit c.frame.before o.before c.opening.0

    pub group-closed : (Vs : List Tree) (m : Amount) → Extends Ts Vs → t.start < t.end → ((z : Option Expression) (F : Expression) → IsBefore pass Ts limit z o.before → IsTerm pass Ts limit F a → IsTerm pass Vs limit (with_term z o.sign F) m)
        → IsTurn pass Vs limit text spot (turn.Next (record { at = t.end; place = due.Behind m })) us first
    group-closed Vs m x some sum = (
      closed-turn pass Ts limit text spot a opens first b Vs t o us m c x at (subst (λ s. IsTerm pass Vs limit (with_term c.frame.before s b.so_far) m) c.opening.1 (sum c.frame.before b.so_far c.opening.0 b.amount)),
      omega (arith, some, at.forward.0),
    )

-- the first token of a line
pub line-start : (pass : Pass) (Us : List Tree) (limit : ℕ) (text : List ℕ) (at : ℕ) (p : Place) (us : List Opening) (first : Option Amount) → us ≡ [] → first ≡ None → p ≡ due.Term (record { before = None; sign = first_sign (kind text) }) → drop at text ≡ first_bytes (kind text) text → at ≤ length text
    → IsReading pass Us limit text at p us first
line-start pass Us limit text at p us first e f place bytes within = record {
  state = a_term (record { before = None; sign = first_sign (kind text) });
  frames = [];
  before = None;
  kept = subst (IsState pass Us limit (a_term (record { before = None; sign = first_sign (kind text) }))) (sym place) (tt, refl);
  open_frames = e;
  first_is = subst (IsBefore pass Us limit None) (sym f) tt;
  within = within;
  comes = λ out r. (r.0, subst (λ ys. ReadsTerms limit 0 None (first_sign (kind text)) ys r.0) bytes r.1, r.2);
}

-- whether parentheses are open
pub emptied : (os : List Opening) (n : ℕ) (r : Bool) → n ≡ length os → r ≡ nat_eq n 0 → r ≡ true → length os ≡ 0
emptied os n r l e t = sym l ∙ eqb-true n 0 (sym e ∙ t)

pub filled : (os : List Opening) (n : ℕ) (r : Bool) → n ≡ length os → r ≡ nat_eq n 0 → r ≡ false → 0 < length os
filled os n r l e f = elim (cases_lt 0 (length os)) [
  | inl some ↦ some
  | inr none ↦ absurd (true≢false (sym (e ∙ eq-eqb n 0 (omega (arith, none, l))) ∙ f))
]

-- the second sum begins
pub second-begun : (pass : Pass) (Ts : List Tree) (limit : ℕ) (text : List ℕ) (spot : ℕ) (a : Amount) (opens : List Opening) (first : Option Amount) → IsReading pass Ts limit text spot (due.Behind a) opens first → (t : Token) → IsTokenAt text spot t → (step_at : ℕ) (p : Place)
    → t.start < t.end → t.kind ≡ Query → length opens ≡ 0 → first ≡ None → p ≡ due.Term (record { before = None; sign = first_sign (kind (drop t.end text)) }) → drop step_at text ≡ first_bytes (kind (drop t.end text)) (drop t.end text) → t.end ≤ step_at → step_at ≤ length text
    → IsTurn pass Ts limit text spot (turn.Next (record { at = step_at; place = p })) opens (Some a)
second-begun pass Ts limit text spot a opens first w t at step_at p some k empty none place bytes forward within = (
  query-turn pass Ts limit text spot a opens first (term-behind pass Ts limit text spot a opens first w) t step_at p at k empty none place bytes within,
  omega (arith, some, at.forward.0, forward),
)

-- a token other than the end
abbrev pub BeginsToken : Kind → Type 0
BeginsToken End = ⊥
BeginsToken k = Unit {0}

pub not-end : (k j : Kind) → j ≡ k → BeginsToken k → j ≡ End → ⊥
not-end k j e h f = subst BeginsToken (sym e ∙ f) h
