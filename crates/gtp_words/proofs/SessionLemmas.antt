-- A session as far as it was answered.
use Rattle.std.proofs.Common.{Bool, true, false, ◌≡◌, ◌<◌, ◌≤◌, ◌+◌, ◌++◌, ℕ, suc, List, [], length, refl, ap, ◌∙◌, append-nil, sym, subst, Option, Some, None}
use Rattle.desk_io.specs.declared.lines.TheConstants.{MOST_LINES}
use Rattle.std.specs.Io.KnownBytes.{append_known}
use Rattle.gtp_words.specs.declared.end.GtpEnd.{GtpEnd}
use Rattle.gtp_words.specs.declared.end.GtpEnd.TheVariants.{Quit, InputEnded, ReadFault, WriteFault, TooManyLines, Memory}
use Rattle.gtp_words.specs.Sessions.{Answers, Loaded, Standing, TakesLine, TakesLines, StandsAt, WritesByEnd, beginning, loadless}
use Rattle.gtp_words.specs.inner.Taking.{Replies}
use Rattle.gtp_words.proofs.FailedLoadLemmas.{Agrees, AreBelow, agrees_itself, noted_agrees, noted_numbered}
use Rattle.gtp_words.proofs.TakenLineLemmas.{Taken, append_none, append_twice}

module _ (A : Type 0) (Reply : Answers A) where
  -- where the session stands, with so many lines read and these bytes left
  abbrev pub standing : Loaded A → ℕ → List ℕ → Standing A
  standing a read left = record { state = a.state; loads = a.loads.count; read = read; left = left }

  -- So many lines were answered, and lead to where the session stands, for each list of failed loads that agrees on the loads so far.
  pub record Went (start : A) (bytes : List ℕ) (holds₀ : Option (List ℕ)) (a : Loaded A) (read : ℕ) (held : List ℕ) (left holds : Option (List ℕ)) : Type 0 where
    pub number : ℕ
    pub rest : List ℕ
    pub text : List ℕ
    pub unread : left ≡ Some rest
    pub turns : (failing : List ℕ) → Agrees a.loads failing → TakesLines A Reply failing number (beginning start bytes) text (standing a read (held ++ rest))
    pub written : holds ≡ append_known holds₀ text

  pub record Going (start : A) (left₀ holds₀ : Option (List ℕ)) (a : Loaded A) (read : ℕ) (held : List ℕ) (left holds : Option (List ℕ)) : Type 0 where
    pub told : (bytes : List ℕ) → left₀ ≡ Some bytes → Went start bytes holds₀ a read held left holds

  pub going_start : (start : A) (left holds : Option (List ℕ)) (held : List ℕ) → held ≡ [] → Going start left holds (loadless start) 0 held left holds
  going_start start left holds held none = record {
    told = λ bytes e. record {
      number = 0;
      rest = bytes;
      text = [];
      unread = e;
      turns = λ failing agrees. (refl, ap (λ l. standing (loadless start) 0 (l ++ bytes)) none);
      written = append_none holds;
    };
  }

  -- a line that was answered is one that the session takes
  takes : (failing : List ℕ) (before now : ℕ) (a b : Loaded A) (read : ℕ) (bytes text rest : List ℕ) (last : Bool) → read < MOST_LINES → AreBelow a.loads → Agrees b.loads failing
      → Replies A Reply before now a bytes text b rest last → TakesLine A Reply failing (standing a read bytes) text (standing b (read + 1) rest) last
  takes failing before now a b read bytes text rest last few below agrees r = record {
    few = few;
    some = r.some;
    line = r.line;
    fate = r.answered.fate;
    taken = r.taken;
    answered = r.answered.answered;
    counted = refl;
    numbered = noted_numbered before now a.loads b.loads r.answered.fate failing r.answered.noted below agrees;
  }

  module _ (start : A) (left₀ holds₀ : Option (List ℕ)) (a : Loaded A) (read : ℕ) (held : List ℕ) (left holds : Option (List ℕ)) (w : Going start left₀ holds₀ a read held left holds) where
    joined : (holds' : Option (List ℕ)) (first then : List ℕ) → holds ≡ append_known holds₀ first → holds' ≡ append_known holds then → holds' ≡ append_known holds₀ (first ++ then)
    joined holds' first then e f = f ∙ ap (λ h. append_known h then) e ∙ append_twice holds₀ first then

    stands : (b : Loaded A) (n : ℕ) (own rest : List ℕ) (l : Option (List ℕ)) → l ≡ Some rest → length own ≤ 1024 → StandsAt A b.state l (standing b n (own ++ rest))
    stands b n own rest l told short = record { held = own; rest = rest; same = refl; unread = refl; few = short; source = told }

    -- as many lines were read as a session reads
    pub going_over : read ≡ MOST_LINES → length held ≤ 1024 → (bytes : List ℕ) → left₀ ≡ Some bytes → WritesByEnd A Reply a.loads.failures start bytes holds₀ holds a.state left TooManyLines
    going_over all short bytes e =
        let x = w.told bytes e in (
          standing a read (held ++ x.rest),
          x.text,
          stands a read held x.rest left x.unread short,
          record {
            number = x.number;
            before_end = standing a read (held ++ x.rest);
            first = x.text;
            then = [];
            turns = x.turns a.loads.failures (agrees_itself a.loads);
            ends = (all, refl, refl);
            whole = sym (append-nil x.text);
          },
          x.written,
        )

    module _ (before now : ℕ) (b : Loaded A) (held' : List ℕ) (left' holds' : Option (List ℕ)) (few : read < MOST_LINES) (below : AreBelow a.loads) where
      -- what the reader held and the source had left is held and left still
      stays : b ≡ a → length held' ≤ 1024 → (rest rest' : List ℕ) → left' ≡ Some rest' → held' ++ rest' ≡ held ++ rest → StandsAt A b.state left' (standing a read (held ++ rest))
      stays is short rest rest' told unmoved = record { held = held'; rest = rest'; same = ap (λ l. l.state) (sym is); unread = sym unmoved; few = short; source = told }

      -- a line more
      pub going_line : Taken A Reply before now a held left holds holds' None b held' left' → Going start left₀ holds₀ b (read + 1) held' left' holds'
      going_line taken = record {
        told = λ bytes e.
            let x = w.told bytes e in let t = taken x.rest x.unread in let l = t.2 in
            record {
              number = suc x.number;
              rest = t.0;
              text = x.text ++ l.0;
              unread = t.1;
              turns = λ failing agrees. (
                standing a read (held ++ x.rest),
                (
                  x.text,
                  l.0,
                  x.turns failing (noted_agrees before now a.loads b.loads l.1.answered.fate failing l.1.answered.noted agrees),
                  takes failing before now a b read (held ++ x.rest) l.0 (held' ++ t.0) false few below agrees l.1,
                  refl,
                ),
              );
              written = joined holds' x.text l.0 x.written l.2;
            };
      }

      -- the state of before is that behind the session
      same_agrees : b ≡ a → Agrees a.loads b.loads.failures
      same_agrees same = subst (λ v. Agrees a.loads v.loads.failures) (sym same) (agrees_itself a.loads)

      -- the session ends
      pub going_end : (end : GtpEnd) → length held' ≤ 1024 → Taken A Reply before now a held left holds holds' (Some end) b held' left' → (bytes : List ℕ) → left₀ ≡ Some bytes
          → WritesByEnd A Reply b.loads.failures start bytes holds₀ holds' b.state left' end
      going_end Quit short taken bytes e =
          let x = w.told bytes e in let t = taken x.rest x.unread in let l = t.2 in let agrees = agrees_itself b.loads in (
            standing b (read + 1) (held' ++ t.0),
            x.text ++ l.0,
            stands b (read + 1) held' t.0 left' t.1 short,
            record {
              number = x.number;
              before_end = standing a read (held ++ x.rest);
              first = x.text;
              then = l.0;
              turns = x.turns b.loads.failures (noted_agrees before now a.loads b.loads l.1.answered.fate b.loads.failures l.1.answered.noted agrees);
              ends = takes b.loads.failures before now a b read (held ++ x.rest) l.0 (held' ++ t.0) true few below agrees l.1;
              whole = refl;
            },
            joined holds' x.text l.0 x.written l.2,
          )
      going_end InputEnded short taken bytes e =
          let x = w.told bytes e in let t = taken x.rest x.unread in let l = t.2 in (
            standing a read (held ++ x.rest),
            x.text,
            stays l.1 short x.rest t.0 t.1 l.3,
            record {
              number = x.number;
              before_end = standing a read (held ++ x.rest);
              first = x.text;
              then = [];
              turns = x.turns b.loads.failures (same_agrees l.1);
              ends = (few, l.0, refl, refl);
              whole = sym (append-nil x.text);
            },
            l.2 ∙ x.written,
          )
      going_end ReadFault short taken bytes e =
          let x = w.told bytes e in let t = taken x.rest x.unread in
          (standing a read (held ++ x.rest), x.text, stays t.2.0 short x.rest t.0 t.1 t.2.2, (x.number, x.turns b.loads.failures (same_agrees t.2.0), few), t.2.1 ∙ x.written)
      going_end Memory short taken bytes e =
          let x = w.told bytes e in let t = taken x.rest x.unread in
          (standing a read (held ++ x.rest), x.text, stays t.2.0 short x.rest t.0 t.1 t.2.2, (x.number, x.turns b.loads.failures (same_agrees t.2.0), few), t.2.1 ∙ x.written)
      going_end WriteFault short taken bytes e =
          let x = w.told bytes e in let t = taken x.rest x.unread in let l = t.2 in let agrees = agrees_itself b.loads in (
            standing b (read + 1) (held' ++ t.0),
            x.text ++ l.0,
            stands b (read + 1) held' t.0 left' t.1 short,
            (
              x.number,
              standing a read (held ++ x.rest),
              x.text,
              l.0,
              l.1,
              l.2,
              x.turns b.loads.failures (noted_agrees before now a.loads b.loads l.3.answered.fate b.loads.failures l.3.answered.noted agrees),
              takes b.loads.failures before now a b read (held ++ x.rest) (l.0 ++ l.1) (held' ++ t.0) l.2 few below agrees l.3,
              refl,
            ),
            joined holds' x.text l.0 x.written l.4,
          )
      going_end TooManyLines short taken bytes e = let x = w.told bytes e in absurd (taken x.rest x.unread).2
