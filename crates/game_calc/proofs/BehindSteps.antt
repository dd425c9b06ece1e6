-- How a line is read behind a term.
use Rattle.std.proofs.Common.{ℕ, ◌<◌, ◌≤◌, ◌≡◌, ◌++◌, ◌∷◌, [], List, length, drop, arith, ap, refl, sym, subst, ◌∙◌, Some, None}
use Rattle.std.specs.Prelude.{Option, Ok, Err}
use Rattle.std.proofs.lemmas.List.{length-append, same_from_push}
use Rattle.short_games.specs.Tree.{Tree}
use Rattle.game_store.specs.Meaning.{Extends}
use Rattle.game_calc.specs.inner.Amounts.{IsTerm, IsBefore}
use Rattle.game_calc.specs.Expression.{Expression, Line, ReadsTerms, ReadsLine, AfterFirst, line_ended, closed_by, kind, next, rest, sign_of, with_term, first_sign, first_bytes}
use Rattle.game_calc.specs.Expression.Line.{value, order}
use Rattle.game_calc.specs.Expression.Fault.{stray, unfinished}
use Rattle.game_calc.specs.Expression.Outcome.{reads}
use Rattle.game_calc.specs.inner.Machine.{Frame, Answer, AfterTerm, BehindTerm, BehindSum, Rest, IsOpening, IsState, AreOpen, IsReading, IsTokenAt, IsAsked}
use Rattle.game_calc.specs.inner.Machine.LineState.{a_term, behind_term}
use Rattle.game_calc.specs.declared.amounts.Amount.{Amount}
use Rattle.game_calc.specs.declared.amounts.Opening.{Opening}
use Rattle.game_calc.specs.declared.amounts.Pass.{Pass}
use Rattle.game_calc.specs.declared.amounts.Sign.{Sign}
use Rattle.game_calc.specs.declared.pending.Asked.TheVariants as asked
use Rattle.game_calc.specs.declared.pending.Place.{Place}
use Rattle.game_calc.specs.declared.pending.Place.TheVariants as due
use Rattle.game_calc.specs.declared.tokens.Kind.{Kind}
use Rattle.game_calc.specs.declared.tokens.Kind.TheVariants.{End, Plus, Minus, Open, Close, Query, Game}
use Rattle.game_calc.specs.declared.tokens.Token.{Token}
use Rattle.game_calc.proofs.LineSteps.{IsBehindTerm, before-kept, open-kept, open-length}

-- what the line comes to where the next token is no sign, by what it is
module _ (limit : ℕ) (E : Expression) (bytes : List ℕ) where
  abbrev SumBy : Kind → List Frame → Option Expression → Answer → Type 0
  SumBy k [] None out = AfterFirst limit k E bytes out
  SumBy k [] (Some D) out = out ≡ line_ended k D E bytes
  SumBy k (f ∷ fs) first out = BehindTerm limit (BehindSum limit fs first) (length fs) f (closed_by k E bytes) out

  sum-by : (fs : List Frame) (first : Option Expression) (out : Answer) (k : Kind) → kind bytes ≡ k → SumBy k fs first out → BehindSum limit fs first (reads E bytes) out
  sum-by [] None out k e r = subst (λ z. SumBy z [] None out) (sym e) r
  sum-by [] (Some D) out k e r = subst (λ z. SumBy z [] (Some D) out) (sym e) r
  sum-by (f ∷ fs) first out k e r = subst (λ z. SumBy z (f ∷ fs) first out) (sym e) r

  -- a token that can't stand there
  abbrev Strays : Kind → List Frame → Option Expression → Type 0
  Strays Open fs first = Unit {0}
  Strays Game fs first = Unit {0}
  Strays Close [] first = Unit {0}
  Strays Query [] (Some D) = Unit {0}
  Strays Query (f ∷ fs) first = Unit {0}
  Strays k fs first = ⊥

  strayed : (k : Kind) (fs : List Frame) (first : Option Expression) → Strays k fs first → SumBy k fs first (Err (stray (next bytes)))
  strayed Open [] None s = refl
  strayed Open [] (Some D) s = refl
  strayed Open (f ∷ fs) first s = refl
  strayed Game [] None s = refl
  strayed Game [] (Some D) s = refl
  strayed Game (f ∷ fs) first s = refl
  strayed Close [] None s = refl
  strayed Close [] (Some D) s = refl
  strayed Close (f ∷ fs) first s = absurd s
  strayed Query [] None s = absurd s
  strayed Query [] (Some D) s = refl
  strayed Query (f ∷ fs) first s = refl
  strayed End fs first s = absurd s
  strayed Plus fs first s = absurd s
  strayed Minus fs first s = absurd s

  no-sign : (k : Kind) (fs : List Frame) (first : Option Expression) → Strays k fs first → sign_of k ≡ None
  no-sign Open fs first s = refl
  no-sign Game fs first s = refl
  no-sign Close fs first s = refl
  no-sign Query fs first s = refl
  no-sign End fs first s = refl
  no-sign Plus fs first s = absurd s
  no-sign Minus fs first s = absurd s

module _ (pass : Pass) (Ts : List Tree) (limit : ℕ) (text : List ℕ) (spot : ℕ) (a : Amount) (opens : List Opening) (first : Option Amount) (b : IsBehindTerm pass Ts limit text spot a opens first) where
  sum-ends : sign_of (kind (drop spot text)) ≡ None → (out : Answer) → BehindSum limit b.frames b.before (reads b.so_far (drop spot text)) out → ReadsLine limit text out
  sum-ends none out r = b.comes out (subst (λ s. AfterTerm limit (BehindSum limit b.frames b.before) (length b.frames) b.so_far s (drop spot text) out) (sym none) r)

  -- one more term
  pub sign-turn : (t : Token) (s : Sign) → IsTokenAt text spot t → sign_of t.kind ≡ Some s → IsReading pass Ts limit text t.end (due.Term (record { before = Some a; sign = s })) opens first
  sign-turn t s w k = record {
    state = a_term (record { before = Some b.so_far; sign = s });
    frames = b.frames;
    before = b.before;
    kept = (b.amount, refl);
    open_frames = b.open_frames;
    first_is = b.first_is;
    within = w.within;
    comes = λ out r. b.comes out (subst (λ z. AfterTerm limit (BehindSum limit b.frames b.before) (length b.frames) b.so_far z (drop spot text) out) (sym k ∙ ap sign_of w.kind_is)
        (r.0, subst (λ ys. ReadsTerms limit (length b.frames) (Some b.so_far) s ys r.0) w.rest_is r.1, r.2));
  }

  -- the parenthesis that is closed
  pub record IsClosing (o : Opening) (us : List Opening) : Type 0 where
    pub frame : Frame
    pub frames : List Frame
    pub opening : IsOpening pass Ts limit frame o
    pub open_frames : AreOpen pass Ts limit frames us
    pub comes : (out : Answer) → Rest limit (behind_term (with_term frame.before frame.sign b.so_far)) frames b.before (rest (drop spot text)) out → ReadsLine limit text out

  pub closing : (o : Opening) (us : List Opening) → kind (drop spot text) ≡ Close → opens ≡ us ++ o ∷ [] → IsClosing o us
  closing o us k e = at b.frames b.open_frames (sum-ends (ap sign_of k))
    where
      at : (fs : List Frame) → AreOpen pass Ts limit fs opens → ((out : Answer) → BehindSum limit fs b.before (reads b.so_far (drop spot text)) out → ReadsLine limit text out) → IsClosing o us
      at [] h c = absurd (omega (arith, ap length (sym h ∙ e), length-append us (o ∷ [])))
      at (f ∷ fs) (below, top, is, op, h) c =
          let s = same_from_push below us top o (sym is ∙ e) in
          record {
            frame = f;
            frames = fs;
            opening = subst (IsOpening pass Ts limit f) s.1 op;
            open_frames = subst (AreOpen pass Ts limit fs) s.0 h;
            comes = λ out r. c out (sum-by limit b.so_far (drop spot text) (f ∷ fs) b.before out Close k r);
          }

  pub closed-turn : (Us : List Tree) (t : Token) (o : Opening) (us : List Opening) (m : Amount) → (c : IsClosing o us) → Extends Ts Us → IsTokenAt text spot t → IsTerm pass Us limit (with_term c.frame.before c.frame.sign b.so_far) m
      → IsReading pass Us limit text t.end (due.Behind m) us first
  closed-turn Us t o us m c x w amount = record {
    state = behind_term (with_term c.frame.before c.frame.sign b.so_far);
    frames = c.frames;
    before = b.before;
    kept = amount;
    open_frames = open-kept pass Ts Us limit c.frames us x c.open_frames;
    first_is = before-kept pass Ts Us limit b.before first x b.first_is;
    within = w.within;
    comes = λ out r. c.comes out (subst (λ ys. Rest limit (behind_term (with_term c.frame.before c.frame.sign b.so_far)) c.frames b.before ys out) w.rest_is r);
  }

  none-open : length opens ≡ 0 → b.frames ≡ []
  none-open e = at b.frames (omega (arith, e, open-length pass Ts limit b.frames opens b.open_frames))
    where
      at : (fs : List Frame) → length fs ≡ 0 → fs ≡ []
      at [] e = refl
      at (f ∷ fs) e = absurd (omega (arith, e))

  -- the second sum begins
  pub query-turn : (t : Token) (at : ℕ) (p : Place) → IsTokenAt text spot t → t.kind ≡ Query → length opens ≡ 0 → first ≡ None
      → p ≡ due.Term (record { before = None; sign = first_sign (kind (drop t.end text)) }) → drop at text ≡ first_bytes (kind (drop t.end text)) (drop t.end text) → at ≤ length text
      → IsReading pass Ts limit text at p opens (Some a)
  query-turn t at p w k empty none place bytes_are within = record {
    state = a_term (record { before = None; sign = first_sign (kind (drop t.end text)) });
    frames = [];
    before = Some b.so_far;
    kept = subst (IsState pass Ts limit (a_term (record { before = None; sign = first_sign (kind (drop t.end text)) }))) (sym place) (tt, refl);
    open_frames = subst (λ fs. AreOpen pass Ts limit fs opens) (none-open empty) b.open_frames;
    first_is = b.amount;
    within = within;
    comes = λ out r. sum-ends (ap sign_of (sym w.kind_is ∙ k)) out (subst (λ fs. BehindSum limit fs b.before (reads b.so_far (drop spot text)) out) (sym (none-open empty))
        (from b.before b.first_is out (r.0, subst (λ ys. ReadsTerms limit 0 None (first_sign (kind ys)) (first_bytes (kind ys) ys) r.0) w.rest_is (subst (λ ys. ReadsTerms limit 0 None (first_sign (kind (drop t.end text))) ys r.0) bytes_are r.1), r.2)));
  }
    where
      from : (f : Option Expression) → IsBefore pass Ts limit f first → (out : Answer) → AfterFirst limit Query b.so_far (drop spot text) out → BehindSum limit [] f (reads b.so_far (drop spot text)) out
      from None h out r = sum-by limit b.so_far (drop spot text) [] None out Query (sym w.kind_is ∙ k) r
      from (Some D) h out r = absurd (subst (IsBefore pass Ts limit (Some D)) none h)

  -- the line has ended
  pub value-read : kind (drop spot text) ≡ End → length opens ≡ 0 → first ≡ None → (l : Line) × ReadsLine limit text (Ok l) × IsAsked pass Ts limit l (asked.Value a)
  value-read k empty none = (value b.so_far, sum-ends (ap sign_of k) (Ok (value b.so_far)) (subst (λ fs. BehindSum limit fs b.before (reads b.so_far (drop spot text)) (Ok (value b.so_far))) (sym (none-open empty)) (from b.before b.first_is)), b.amount)
    where
      from : (f : Option Expression) → IsBefore pass Ts limit f first → BehindSum limit [] f (reads b.so_far (drop spot text)) (Ok (value b.so_far))
      from None h = sum-by limit b.so_far (drop spot text) [] None (Ok (value b.so_far)) End k refl
      from (Some D) h = absurd (subst (IsBefore pass Ts limit (Some D)) none h)

  pub order-read : (m : Amount) → kind (drop spot text) ≡ End → length opens ≡ 0 → first ≡ Some m → (l : Line) × ReadsLine limit text (Ok l) × IsAsked pass Ts limit l (asked.Order m a)
  order-read m k empty some = from b.before b.first_is (λ out r. sum-ends (ap sign_of k) out (subst (λ fs. BehindSum limit fs b.before (reads b.so_far (drop spot text)) out) (sym (none-open empty)) r))
    where
      from : (f : Option Expression) → IsBefore pass Ts limit f first → ((out : Answer) → BehindSum limit [] f (reads b.so_far (drop spot text)) out → ReadsLine limit text out) → (l : Line) × ReadsLine limit text (Ok l) × IsAsked pass Ts limit l (asked.Order m a)
      from None h c = absurd (subst (IsBefore pass Ts limit None) some h)
      from (Some D) h c = (order D b.so_far, c _ (sum-by limit b.so_far (drop spot text) [] (Some D) (Ok (order D b.so_far)) End k refl), (subst (IsBefore pass Ts limit (Some D)) some h, b.amount))

  -- the line has ended within a parenthesis
  pub group-cut : kind (drop spot text) ≡ End → 0 < length opens → ReadsLine limit text (Err unfinished)
  group-cut k some = at b.frames b.open_frames (sum-ends (ap sign_of k) (Err unfinished))
    where
      at : (fs : List Frame) → AreOpen pass Ts limit fs opens → (BehindSum limit fs b.before (reads b.so_far (drop spot text)) (Err unfinished) → ReadsLine limit text (Err unfinished)) → ReadsLine limit text (Err unfinished)
      at [] h c = absurd (omega (arith, some, ap length h))
      at (f ∷ fs) h c = c (sum-by limit b.so_far (drop spot text) (f ∷ fs) b.before (Err unfinished) End k refl)

  -- a token that can't stand behind a term
  stray-at : (k : Kind) → kind (drop spot text) ≡ k → Strays limit b.so_far (drop spot text) k b.frames b.before → ReadsLine limit text (Err (stray (next (drop spot text))))
  stray-at k e s = sum-ends (ap sign_of e ∙ no-sign limit b.so_far (drop spot text) k b.frames b.before s) _ (sum-by limit b.so_far (drop spot text) b.frames b.before _ k e (strayed limit b.so_far (drop spot text) k b.frames b.before s))

  pub open-stray : kind (drop spot text) ≡ Open → ReadsLine limit text (Err (stray (next (drop spot text))))
  open-stray e = stray-at Open e tt

  pub game-stray : kind (drop spot text) ≡ Game → ReadsLine limit text (Err (stray (next (drop spot text))))
  game-stray e = stray-at Game e tt

  pub close-stray : kind (drop spot text) ≡ Close → length opens ≡ 0 → ReadsLine limit text (Err (stray (next (drop spot text))))
  close-stray e empty = stray-at Close e (subst (λ fs. Strays limit b.so_far (drop spot text) Close fs b.before) (sym (none-open empty)) tt)

  pub query-within : kind (drop spot text) ≡ Query → 0 < length opens → ReadsLine limit text (Err (stray (next (drop spot text))))
  query-within e some = stray-at Query e (at b.frames b.before b.open_frames)
    where
      at : (fs : List Frame) (f : Option Expression) → AreOpen pass Ts limit fs opens → Strays limit b.so_far (drop spot text) Query fs f
      at [] f h = absurd (omega (arith, some, ap length h))
      at (g ∷ fs) f h = tt

  pub query-again : (m : Amount) → kind (drop spot text) ≡ Query → first ≡ Some m → ReadsLine limit text (Err (stray (next (drop spot text))))
  query-again m e some = stray-at Query e (at b.frames b.before b.first_is)
    where
      at : (fs : List Frame) (f : Option Expression) → IsBefore pass Ts limit f first → Strays limit b.so_far (drop spot text) Query fs f
      at [] None h = absurd (subst (IsBefore pass Ts limit None) some h)
      at [] (Some D) h = tt
      at (g ∷ fs) f h = tt
