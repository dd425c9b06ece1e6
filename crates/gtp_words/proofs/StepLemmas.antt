-- How many steps a session has taken.
use Rattle.std.proofs.Common.{Bool, true, false, ◌≡◌, ◌<◌, ◌≤◌, ◌+◌, ◌++◌, ℕ, zero, suc, List, length, take, drop, inl, inr, arith, refl, ap, ◌∙◌, sym, subst, Option, Some, None}
use Rattle.desk_io.specs.Lines.{IsFound, IsSameInput}
use Rattle.desk_io.specs.declared.lines.FoundLine.{FoundLine}
use Rattle.desk_io.specs.declared.lines.TheConstants.{MOST_LINES}
use Rattle.gtp_words.specs.declared.end.GtpEnd.{GtpEnd}
use Rattle.gtp_words.specs.declared.end.GtpEnd.TheVariants.{Quit, InputEnded, ReadFault, WriteFault, TooManyLines, Memory}
use Rattle.gtp_words.specs.Sessions.{Answers, Ends, IsReply, IsSession, Loaded, Standing, StandsAt, TakesLine, TakesLines, Waits, WritesByEnd, beginning}
use Rattle.gtp_words.specs.Steps.{AnswersInSteps, Counted, LineSteps, StepsByEnd, StepsOfLines, WithSteps, counted}
use Rattle.gtp_words.specs.inner.Taking.{LineCounted, LineStepped, loaded_at}
use Rattle.gtp_words.proofs.FailedLoadLemmas.{Agrees, AreBelow, agrees_itself}
use Rattle.gtp_words.proofs.SessionLemmas.{Going, going_end, standing}
use Rattle.gtp_words.proofs.TakenLineLemmas.{Taken, found_first}

module _ (A : Type 0) (Steps : LineSteps A) (Reply : Answers A) where
  -- a reply, with the steps of its line
  pub stepped_reply : (before now : ℕ) (line : List ℕ) (a : Loaded A) (text : List ℕ) (b : Loaded A) (last : Bool) (s t : ℕ) → IsReply A Reply before now line a text b last
      → Steps a.state line s t → IsReply (Counted A) (WithSteps Steps Reply) before now line (loaded_at a s) text (loaded_at b t) last
  stepped_reply before now line a text b last s t r steps = record { fate = r.fate; answered = (r.answered, steps); noted = r.noted }

  -- what one line leaves with its steps, whatever the source has left
  abbrev pub Stepped : ℕ → ℕ → Loaded A → ℕ → List ℕ → Option (List ℕ) → Option (List ℕ) → Option (List ℕ) → Option GtpEnd → Loaded A → ℕ → List ℕ → Option (List ℕ) → Type 0
  Stepped before now a s held left holds holds' result b t held' left' = (bytes : List ℕ) → left ≡ Some bytes
      → (rest : List ℕ) × (left' ≡ Some rest) × LineStepped A Steps Reply before now a s (held ++ bytes) holds holds' result b t (held' ++ rest)

  -- memory was refused
  pub stepped_refused : (before now : ℕ) (a b : Loaded A) (s t : ℕ) (start held : List ℕ) (left left' holds : Option (List ℕ)) → IsSameInput start left held left' → (f : FoundLine)
      → IsFound 1024 held left' (Some f) → (line : List ℕ) → line ≡ take f.line held → b ≡ a → Steps a.state line s t → Stepped before now a s start left holds holds (Some Memory) b t held left'
  stepped_refused before now a b s t start held left left' holds same f found line is unchanged steps bytes e =
      let r = found_first start held left left' same f found line is bytes e in let q = same bytes e in
      (q.0, q.1, (unchanged, refl, sym q.2, (line, drop f.taken held ++ r.0, r.2, r.3, steps)))

  module _ (start : A) (s₀ : ℕ) (left₀ holds₀ : Option (List ℕ)) (a : Loaded A) (s read : ℕ) (held : List ℕ) (left holds : Option (List ℕ)) where
    -- so many lines were answered with these steps
    abbrev pub HasStepped : Type 0
    HasStepped = Going (Counted A) (WithSteps Steps Reply) (counted start s₀) left₀ holds₀ (loaded_at a s) read held left holds

    module _ (w : HasStepped) (before now : ℕ) (b : Loaded A) (t : ℕ) (held' : List ℕ) (left' holds' : Option (List ℕ)) (few : read < MOST_LINES) (below : AreBelow a.loads) (short : length held' ≤ 1024) where
      ends : (end : GtpEnd) → Taken (Counted A) (WithSteps Steps Reply) before now (loaded_at a s) held left holds holds' (Some end) (loaded_at b t) held' left' → (bytes : List ℕ) → left₀ ≡ Some bytes
          → WritesByEnd (Counted A) (WithSteps Steps Reply) b.loads.failures (counted start s₀) bytes holds₀ holds' (counted b.state t) left' end
      ends end one bytes e =
          going_end (Counted A) (WithSteps Steps Reply) (counted start s₀) left₀ holds₀ (loaded_at a s) read held left holds w before now (loaded_at b t) held' left' holds' few below end short one bytes e

      -- the session ends
      pub stepped_end : (end : GtpEnd) → Stepped before now a s held left holds holds' (Some end) b t held' left' → (bytes : List ℕ) → left₀ ≡ Some bytes
          → StepsByEnd A Steps Reply b.loads.failures (counted start s₀) bytes holds₀ holds' (counted b.state t) left' end
      stepped_end Quit one bytes e = ends Quit one bytes e
      stepped_end InputEnded one bytes e = ends InputEnded one bytes e
      stepped_end ReadFault one bytes e = ends ReadFault one bytes e
      stepped_end WriteFault one bytes e = ends WriteFault one bytes e
      stepped_end TooManyLines one bytes e = ends TooManyLines one bytes e
      stepped_end Memory one bytes e =
          let x = w.told bytes e in let r = one x.rest x.unread in let l = r.2 in (
            standing (Counted A) (WithSteps Steps Reply) (loaded_at a s) read (held ++ x.rest),
            x.text,
            record { held = held'; rest = r.0; same = ap (λ v. counted v.state s) (sym l.0); unread = sym l.2; few = short; source = r.1 },
            (x.number, x.turns b.loads.failures (subst (λ v. Agrees a.loads v.loads.failures) (sym l.0) (agrees_itself a.loads)), few),
            l.1 ∙ x.written,
            inr l.3,
          )

module _ (A : Type 0) (Steps : LineSteps A) (Reply : Answers A) (a : Counted A) where
  -- so many lines were read, and no more answered with these steps
  abbrev pub HasCounted : ℕ → Counted A → Type 0
  HasCounted read b = (n : ℕ) × (n ≤ read) × AnswersInSteps Steps Reply n a b

  module _ (read : ℕ) (b : Counted A) (before : HasCounted read b) where
    -- a line more
    pub counted_line : (c : Counted A) → LineCounted A Steps Reply b None c → HasCounted (read + 1) c
    counted_line c one = (suc before.0, omega (arith, before.1), (b, before.2, one))

    -- as many lines were read as a session reads
    pub counted_over : read ≤ MOST_LINES → StepsOfLines Steps Reply MOST_LINES a b
    counted_over few = (before.0, omega (arith, before.1, few), b, before.2, refl, inl refl)

    -- the session ends
    pub counted_end : (c : Counted A) → read < MOST_LINES → (end : GtpEnd) → LineCounted A Steps Reply b (Some end) c → StepsOfLines Steps Reply MOST_LINES a c
    counted_end c few Quit one = (suc before.0, omega (arith, before.1, few), c, (b, before.2, one), refl, inl refl)
    counted_end c few WriteFault one = (suc before.0, omega (arith, before.1, few), c, (b, before.2, one), refl, inl refl)
    counted_end c few InputEnded one = (before.0, omega (arith, before.1, few), b, before.2, ap (λ x. x.state) one, inl (ap (λ x. x.steps) one))
    counted_end c few ReadFault one = (before.0, omega (arith, before.1, few), b, before.2, ap (λ x. x.state) one, inl (ap (λ x. x.steps) one))
    counted_end c few Memory one = (before.0, omega (arith, before.1, few), b, before.2, one.0, inr one.1)
    counted_end c few TooManyLines one = absurd one

-- what a session has written, without its steps
module _ (A : Type 0) (Steps : LineSteps A) (Reply : Answers A) (failing : List ℕ) where
  abbrev plain : Standing (Counted A) → Standing A
  plain c = record { state = c.state.state; loads = c.loads; read = c.read; left = c.left }

  plain_line : (a : Standing (Counted A)) (text : List ℕ) (b : Standing (Counted A)) (last : Bool) → TakesLine (Counted A) (WithSteps Steps Reply) failing a text b last
      → TakesLine A Reply failing (plain a) text (plain b) last
  plain_line a text b last t = record { few = t.few; some = t.some; line = t.line; fate = t.fate; taken = t.taken; answered = t.answered.0; counted = t.counted; numbered = t.numbered }

  plain_lines : (n : ℕ) (a : Standing (Counted A)) (text : List ℕ) (b : Standing (Counted A)) → TakesLines (Counted A) (WithSteps Steps Reply) failing n a text b
      → TakesLines A Reply failing n (plain a) text (plain b)
  plain_lines zero a text b (none, is) = (none, ap plain is)
  plain_lines (suc n) a text c (b, (first, then, turns, one, whole)) = (plain b, (first, then, plain_lines n a first b turns, plain_line b then c false one, whole))

  plain_stands : (at : Counted A) (left : Option (List ℕ)) (c : Standing (Counted A)) → StandsAt (Counted A) at left c → StandsAt A at.state left (plain c)
  plain_stands at left c t = record { held = t.held; rest = t.rest; same = ap (λ s. s.state) t.same; unread = t.unread; few = t.few; source = t.source }

  module _ (start : Counted A) (bytes : List ℕ) (before now : Option (List ℕ)) (at : Counted A) (left : Option (List ℕ)) where
    waits : (c : Standing (Counted A)) (text : List ℕ) → Waits (Counted A) (WithSteps Steps Reply) failing (beginning start bytes) text c
        → Waits A Reply failing (beginning start.state bytes) text (plain c)
    waits c text (n, turns, few) = (n, plain_lines n (beginning start bytes) text c turns, few)

    plain_session : (text : List ℕ) (c : Standing (Counted A)) (end : GtpEnd) (s : IsSession (Counted A) (WithSteps Steps Reply) failing (beginning start bytes) text c end)
        → Ends A Reply failing (plain s.before_end) s.then (plain c) end → IsSession A Reply failing (beginning start.state bytes) text (plain c) end
    plain_session text c end s ends = record {
      number = s.number;
      before_end = plain s.before_end;
      first = s.first;
      then = s.then;
      turns = plain_lines s.number (beginning start bytes) s.first s.before_end s.turns;
      ends = ends;
      whole = s.whole;
    }

    pub plain_end : (end : GtpEnd) → StepsByEnd A Steps Reply failing start bytes before now at left end → WritesByEnd A Reply failing start.state bytes before now at.state left end
    plain_end Quit (c, text, stands, s, written) =
        (plain c, text, plain_stands at left c stands, plain_session text c Quit s (plain_line s.before_end s.then c true s.ends), written)
    plain_end InputEnded (c, text, stands, s, written) =
        (plain c, text, plain_stands at left c stands, plain_session text c InputEnded s (s.ends.0, s.ends.1, s.ends.2, ap plain s.ends.3), written)
    plain_end TooManyLines (c, text, stands, s, written) =
        (plain c, text, plain_stands at left c stands, plain_session text c TooManyLines s (s.ends.0, s.ends.1, ap plain s.ends.2), written)
    plain_end ReadFault (c, text, stands, w, written) = (plain c, text, plain_stands at left c stands, waits c text w, written)
    plain_end Memory (c, text, stands, w, written, tries) = (plain c, text, plain_stands (counted at.state c.state.steps) left c stands, waits c text w, written)
    plain_end WriteFault (c, text, stands, (n, b, first, then, more, last, turns, one, whole), written) = (
      plain c,
      text,
      plain_stands at left c stands,
      (n, plain b, first, then, more, last, plain_lines n (beginning start bytes) first b turns, plain_line b (then ++ more) c last one, whole),
      written,
    )
