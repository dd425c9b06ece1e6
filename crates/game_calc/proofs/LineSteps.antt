-- How a line is read: each token leads to where the rest comes to the same.
use Rattle.std.proofs.Common.{ℕ, suc, ◌<◌, ◌≤◌, ◌≡◌, ◌++◌, ◌∷◌, [], List, length, drop, arith, ap, refl, sym, subst, ◌∙◌, Some, None}
use Rattle.std.specs.Prelude.{Option, Ok, Err}
use Rattle.std.proofs.lemmas.List.{length-append}
use Rattle.short_games.specs.Tree.{Tree}
use Rattle.short_games.specs.TextOrder.{IsCanonicalFor}
use Rattle.game_store.specs.Meaning.{Extends}
use Rattle.game_text.specs.Reading.{ReadsText}
use Rattle.game_calc.specs.inner.Amounts.{IsAmount, IsTerm, IsBefore, IsHeld, IsHeldBefore}
use Rattle.game_calc.specs.Expression.{Expression, Fault, Outcome, tree_of, ReadsTerm, ReadsTerms, ReadsLine, closed, kind, next, token, rest, sign_of, with_term, first_sign, first_bytes}
use Rattle.game_text.specs.Depth.{most_open}
use Rattle.game_calc.specs.Expression.Expression.{game}
use Rattle.game_calc.specs.Expression.Outcome.{reads, refused}
use Rattle.game_calc.specs.Expression.ReadsTerm.{a_game, a_group}
use Rattle.game_calc.specs.Expression.ReadsTerms.{last, one_more, no_more}
use Rattle.game_calc.specs.inner.Machine.{Frame, LineState, Answer, AfterTerm, BehindTerm, BehindSum, Rest, IsOpening, IsState, AreOpen, IsReading, IsTokenAt}
use Rattle.game_calc.specs.inner.Machine.LineState.{a_term, behind_term}
use Rattle.game_calc.specs.declared.amounts.Amount.{Amount}
use Rattle.game_calc.specs.declared.amounts.Amount.TheVariants.{Known, TooLarge}
use Rattle.game_calc.specs.declared.amounts.Opening.{Opening}
use Rattle.game_calc.specs.declared.amounts.Pass.{Pass}
use Rattle.game_calc.specs.declared.amounts.Pass.TheVariants.{Grammar, Sums}
use Rattle.game_calc.specs.declared.amounts.Sign.{Sign}
use Rattle.game_calc.specs.declared.pending.Place.{Place}
use Rattle.game_calc.specs.declared.pending.Place.TheVariants as due
use Rattle.game_calc.specs.declared.tokens.Kind.TheVariants.{Open, Game}
use Rattle.game_calc.specs.declared.tokens.Token.{Token}

-- more trees in the store
pub amount-kept : (Ts Us : List Tree) (limit : ℕ) (E : Expression) (a : Amount) → Extends Ts Us → IsAmount Ts limit E a → IsAmount Us limit E a
amount-kept Ts Us limit E (Known id) x (k, within) = ((omega (arith, k.0, x.longer), subst (λ t. IsCanonicalFor (tree_of E) t) (sym (x.same id k.0)) k.1), within)
amount-kept Ts Us limit E TooLarge x h = h

held-kept : (Ts Us : List Tree) (a : Amount) → Extends Ts Us → IsHeld Ts a → IsHeld Us a
held-kept Ts Us (Known id) x h = omega (arith, h, x.longer)
held-kept Ts Us TooLarge x h = h

pub term-kept : (pass : Pass) (Ts Us : List Tree) (limit : ℕ) (E : Expression) (a : Amount) → Extends Ts Us → IsTerm pass Ts limit E a → IsTerm pass Us limit E a
term-kept Grammar Ts Us limit E a x h = held-kept Ts Us a x h
term-kept Sums Ts Us limit E a x h = amount-kept Ts Us limit E a x h

pub before-kept : (pass : Pass) (Ts Us : List Tree) (limit : ℕ) (o : Option Expression) (b : Option Amount) → Extends Ts Us → IsBefore pass Ts limit o b → IsBefore pass Us limit o b
before-kept pass Ts Us limit None None x h = tt
before-kept pass Ts Us limit None (Some a) x h = absurd h
before-kept pass Ts Us limit (Some E) None x h = absurd h
before-kept pass Ts Us limit (Some E) (Some a) x h = term-kept pass Ts Us limit E a x h

pub open-kept : (pass : Pass) (Ts Us : List Tree) (limit : ℕ) (fs : List Frame) (os : List Opening) → Extends Ts Us → AreOpen pass Ts limit fs os → AreOpen pass Us limit fs os
open-kept pass Ts Us limit [] os x h = h
open-kept pass Ts Us limit (f ∷ fs) os x (below, top, e, o, h) = (below, top, e, (before-kept pass Ts Us limit f.before top.before x o.0, o.1), open-kept pass Ts Us limit fs below x h)

pub open-length : (pass : Pass) (Ts : List Tree) (limit : ℕ) (fs : List Frame) (os : List Opening) → AreOpen pass Ts limit fs os → length os ≡ length fs
open-length pass Ts limit [] os h = ap length h
open-length pass Ts limit (f ∷ fs) os (below, top, e, o, h) = let n = open-length pass Ts limit fs below h in omega (arith, ap length e, length-append below (top ∷ []), n)

-- the amounts are ids of the store
pub amount-held : (pass : Pass) (Ts : List Tree) (limit : ℕ) (E : Expression) (a : Amount) → IsTerm pass Ts limit E a → IsHeld Ts a
amount-held Grammar Ts limit E a h = h
amount-held Sums Ts limit E (Known id) h = h.0.0
amount-held Sums Ts limit E TooLarge h = tt

pub before-held : (pass : Pass) (Ts : List Tree) (limit : ℕ) (o : Option Expression) (b : Option Amount) → IsBefore pass Ts limit o b → IsHeldBefore Ts b
before-held pass Ts limit None None h = tt
before-held pass Ts limit None (Some a) h = absurd h
before-held pass Ts limit (Some E) None h = absurd h
before-held pass Ts limit (Some E) (Some a) h = amount-held pass Ts limit E a h

-- a refusal within goes up to the line
refused-all : (limit : ℕ) (fs : List Frame) (first : Option Expression) (x : Fault) → BehindSum limit fs first (refused x) (Err x)
refused-all limit [] None x = refl
refused-all limit [] (Some E) x = refl
refused-all limit (f ∷ fs) first x = refl

-- where it is known what the next term comes to
term-outcome : (limit : ℕ) (f : Frame) (fs : List Frame) (first : Option Expression) (bytes : List ℕ) (o : Outcome) (out : Answer) → ReadsTerm limit (length fs) bytes (kind bytes) o
    → BehindTerm limit (BehindSum limit fs first) (length fs) f o out → Rest limit (a_term f) fs first bytes out
term-outcome limit f fs first bytes (refused x) out t e = (refused x, no_more (length fs) f.before f.sign bytes x t, subst (BehindSum limit fs first (refused x)) (sym e) (refused-all limit fs first x))
term-outcome limit f fs first bytes (reads F ys) out t b = after (sign_of (kind ys)) refl b
  where
    after : (s : Option Sign) → sign_of (kind ys) ≡ s → AfterTerm limit (BehindSum limit fs first) (length fs) (with_term f.before f.sign F) s ys out → Rest limit (a_term f) fs first bytes out
    after None e b = (reads (with_term f.before f.sign F) ys, last (length fs) f.before f.sign bytes F ys t e, b)
    after (Some s) e (o, terms, b) = (o, one_more (length fs) f.before f.sign bytes F ys s o t e terms, b)

-- a term is due
pub record IsTermDue (pass : Pass) (Ts : List Tree) (limit : ℕ) (text : List ℕ) (spot : ℕ) (o : Opening) (opens : List Opening) (first : Option Amount) : Type 0 where
  pub frame : Frame
  pub frames : List Frame
  pub before : Option Expression
  pub opening : IsOpening pass Ts limit frame o
  pub open_frames : AreOpen pass Ts limit frames opens
  pub first_is : IsBefore pass Ts limit before first
  pub within : spot ≤ length text
  pub comes : (out : Answer) → Rest limit (a_term frame) frames before (drop spot text) out → ReadsLine limit text out

pub term-due : (pass : Pass) (Ts : List Tree) (limit : ℕ) (text : List ℕ) (spot : ℕ) (o : Opening) (opens : List Opening) (first : Option Amount) → IsReading pass Ts limit text spot (due.Term o) opens first → IsTermDue pass Ts limit text spot o opens first
term-due pass Ts limit text spot o opens first w = at w.state w.kept w.comes
  where
    at : (s : LineState) → IsState pass Ts limit s (due.Term o) → ((out : Answer) → Rest limit s w.frames w.before (drop spot text) out → ReadsLine limit text out) → IsTermDue pass Ts limit text spot o opens first
    at (a_term f) k c = record { frame = f; frames = w.frames; before = w.before; opening = k; open_frames = w.open_frames; first_is = w.first_is; within = w.within; comes = c }
    at (behind_term E) k c = absurd k

-- a term was read
pub record IsBehindTerm (pass : Pass) (Ts : List Tree) (limit : ℕ) (text : List ℕ) (spot : ℕ) (a : Amount) (opens : List Opening) (first : Option Amount) : Type 0 where
  pub so_far : Expression
  pub frames : List Frame
  pub before : Option Expression
  pub amount : IsTerm pass Ts limit so_far a
  pub open_frames : AreOpen pass Ts limit frames opens
  pub first_is : IsBefore pass Ts limit before first
  pub within : spot ≤ length text
  pub comes : (out : Answer) → Rest limit (behind_term so_far) frames before (drop spot text) out → ReadsLine limit text out

pub term-behind : (pass : Pass) (Ts : List Tree) (limit : ℕ) (text : List ℕ) (spot : ℕ) (a : Amount) (opens : List Opening) (first : Option Amount) → IsReading pass Ts limit text spot (due.Behind a) opens first → IsBehindTerm pass Ts limit text spot a opens first
term-behind pass Ts limit text spot a opens first w = at w.state w.kept w.comes
  where
    at : (s : LineState) → IsState pass Ts limit s (due.Behind a) → ((out : Answer) → Rest limit s w.frames w.before (drop spot text) out → ReadsLine limit text out) → IsBehindTerm pass Ts limit text spot a opens first
    at (a_term f) k c = absurd k
    at (behind_term E) k c = record { so_far = E; frames = w.frames; before = w.before; amount = k; open_frames = w.open_frames; first_is = w.first_is; within = w.within; comes = c }

module _ (pass : Pass) (Ts : List Tree) (limit : ℕ) (text : List ℕ) (spot : ℕ) (o : Opening) (opens : List Opening) (first : Option Amount) (d : IsTermDue pass Ts limit text spot o opens first) where
  -- a game is taken
  pub named-turn : (Us : List Tree) (t : Token) (G : Tree) (a : Amount) → Extends Ts Us → IsTokenAt text spot t → t.kind ≡ Game → ReadsText limit (token (next (drop spot text))) (Ok G) → IsTerm pass Us limit (with_term d.frame.before d.frame.sign (game G)) a
      → IsReading pass Us limit text t.end (due.Behind a) opens first
  named-turn Us t G a x w k names amount =
      let bytes = drop spot text in
      record {
        state = behind_term (with_term d.frame.before d.frame.sign (game G));
        frames = d.frames;
        before = d.before;
        kept = amount;
        open_frames = open-kept pass Ts Us limit d.frames opens x d.open_frames;
        first_is = before-kept pass Ts Us limit d.before first x d.first_is;
        within = w.within;
        comes = λ out r. d.comes out (term-outcome limit d.frame d.frames d.before bytes (reads (game G) (rest bytes)) out
            (subst (λ k. ReadsTerm limit (length d.frames) bytes k (reads (game G) (rest bytes))) (sym k ∙ w.kind_is) (a_game (length d.frames) bytes (Ok G) names))
            (subst (λ ys. Rest limit (behind_term (with_term d.frame.before d.frame.sign (game G))) d.frames d.before ys out) w.rest_is r));
      }

  -- a parenthesis is opened
  pub group-turn : (t : Token) (at : ℕ) (p : Place) (us : List Opening) → IsTokenAt text spot t → t.kind ≡ Open → length opens < most_open → us ≡ opens ++ o ∷ []
      → p ≡ due.Term (record { before = None; sign = first_sign (kind (drop t.end text)) }) → drop at text ≡ first_bytes (kind (drop t.end text)) (drop t.end text) → at ≤ length text → IsReading pass Ts limit text at p us first
  group-turn t at p us w k few e place bytes_are within =
      let bytes = drop spot text in
      record {
        state = a_term (record { before = None; sign = first_sign (kind (drop t.end text)) });
        frames = d.frame ∷ d.frames;
        before = d.before;
        kept = subst (IsState pass Ts limit (a_term (record { before = None; sign = first_sign (kind (drop t.end text)) }))) (sym place) (tt, refl);
        open_frames = (opens, o, e, d.opening, d.open_frames);
        first_is = d.first_is;
        within = within;
        comes = λ out r. d.comes out (term-outcome limit d.frame d.frames d.before bytes (closed r.0) out
            (subst (λ k. ReadsTerm limit (length d.frames) bytes k (closed r.0)) (sym k ∙ w.kind_is) (a_group (length d.frames) bytes r.0 (omega (arith, few, open-length pass Ts limit d.frames opens d.open_frames))
            (subst (λ ys. ReadsTerms limit (suc (length d.frames)) None (first_sign (kind ys)) (first_bytes (kind ys) ys) r.0) w.rest_is
            (subst (λ ys. ReadsTerms limit (suc (length d.frames)) None (first_sign (kind (drop t.end text))) ys r.0) bytes_are r.1))))
            r.2);
      }

  pub term-refused : (x : Fault) → ReadsTerm limit (length d.frames) (drop spot text) (kind (drop spot text)) (refused x) → ReadsLine limit text (Err x)
  term-refused x t = d.comes (Err x) (term-outcome limit d.frame d.frames d.before (drop spot text) (refused x) (Err x) t refl)
