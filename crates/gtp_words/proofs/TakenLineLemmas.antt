-- A line that is taken and answered.
use Rattle.std.proofs.Common.{Bool, true, false, ◌≡◌, ◌≢◌, ◌≤◌, ◌++◌, ℕ, List, [], length, take, drop, refl, sym, ap, ◌∙◌, subst, arith, append_assoc, append-nil, length-append, take-append-drop, Option, Some, None}
use Rattle.std.specs.Io.KnownBytes.{append_known}
use Rattle.desk_io.specs.Lines.{IsFound, IsLine, IsSameInput}
use Rattle.desk_io.specs.Outside.{ended}
use Rattle.desk_io.specs.declared.lines.FoundLine.{FoundLine}
use Rattle.gtp_words.specs.declared.end.GtpEnd.{GtpEnd}
use Rattle.gtp_words.specs.declared.end.GtpEnd.TheVariants.{InputEnded, Quit, ReadFault, WriteFault}
use Rattle.gtp_words.specs.Sessions.{Answers, IsReply, Loaded}
use Rattle.gtp_words.specs.inner.Taking.{LineTaken, Replies}

pub append_none : (told : Option (List ℕ)) → told ≡ append_known told []
append_none None = refl
append_none (Some xs) = ap Some (sym (append-nil xs))

pub append_twice : (told : Option (List ℕ)) (a b : List ℕ) → append_known (append_known told a) b ≡ append_known told (a ++ b)
append_twice None a b = refl
append_twice (Some xs) a b = ap Some (append_assoc xs a b)

rest_none : (rest : List ℕ) → Path (Option (List ℕ)) (Some rest) (ended (Some rest)) → rest ≡ []
rest_none rest e = cc

-- what one line leaves, whatever the source has left
abbrev pub Taken : (A : Type 0) → Answers A → ℕ → ℕ → Loaded A → List ℕ → Option (List ℕ) → Option (List ℕ) → Option (List ℕ) → Option GtpEnd → Loaded A → List ℕ → Option (List ℕ) → Type 0
Taken A Reply before now a held left holds holds' result b held' left' = (bytes : List ℕ) → left ≡ Some bytes
    → (rest : List ℕ) × (left' ≡ Some rest) × LineTaken A Reply before now a (held ++ bytes) holds holds' result b (held' ++ rest)

-- the bytes begin with the line that was found
pub found_first : (start held : List ℕ) (left left' : Option (List ℕ)) → IsSameInput start left held left' → (f : FoundLine) → IsFound 1024 held left' (Some f) → (line : List ℕ) → line ≡ take f.line held
    → (bytes : List ℕ) → left ≡ Some bytes → (rest : List ℕ) × (left' ≡ Some rest) × (start ++ bytes ≢ []) × IsLine 1024 (start ++ bytes) line (drop f.taken held ++ rest)
found_first start held left left' same f found line is bytes e =
    let r = same bytes e in (
      r.0,
      r.1,
      (λ n. absurd (omega (arith, found.2, ap length (sym r.2 ∙ n), length-append held r.0))),
      subst (λ l. IsLine 1024 (start ++ bytes) l (drop f.taken held ++ r.0)) (sym is)
          (subst (λ l. IsLine 1024 l (take f.line held) (drop f.taken held ++ r.0)) (sym r.2) (found.3 r.0 r.1)),
    )

module _ (A : Type 0) (Reply : Answers A) (before now : ℕ) (a : Loaded A) (start held : List ℕ) (left left' holds : Option (List ℕ)) (same : IsSameInput start left held left') where
  -- a read failed
  pub taken_unread : Taken A Reply before now a start left holds holds (Some ReadFault) a held left'
  taken_unread = λ bytes e. let r = same bytes e in (r.0, r.1, (refl, refl, sym r.2))

  -- nothing was left
  pub taken_nothing : held ≡ [] → left' ≡ ended left' → Taken A Reply before now a start left holds holds (Some InputEnded) a held left'
  taken_nothing none end = λ bytes e.
      let r = same bytes e in
      (r.0, r.1, (r.2 ∙ ap (λ l. l ++ r.0) none ∙ rest_none r.0 (sym r.1 ∙ end ∙ ap ended r.1), refl, refl, sym r.2))

  module _ (f : FoundLine) (found : IsFound 1024 held left' (Some f)) (b : Loaded A) (line used : List ℕ) (is : line ≡ take f.line held) (behind : used ≡ drop f.taken held) where
    replies : (text : List ℕ) (last : Bool) → IsReply A Reply before now line a text b last → (bytes : List ℕ) → left ≡ Some bytes
        → (rest : List ℕ) × (left' ≡ Some rest) × Replies A Reply before now a (start ++ bytes) text b (used ++ rest) last
    replies text last answered bytes e =
        let r = found_first start held left left' same f found line is bytes e in
        (r.0, r.1, record { some = r.2; line = line; taken = subst (λ u. IsLine 1024 (start ++ bytes) line (u ++ r.0)) (sym behind) r.3; answered = answered })

    -- the line was answered, and the session goes on
    pub taken_on : (text : List ℕ) (last : Bool) (holds' : Option (List ℕ)) → IsReply A Reply before now line a text b last → last ≡ false → holds' ≡ append_known holds text
        → Taken A Reply before now a start left holds holds' None b used left'
    taken_on text last holds' answered on written = λ bytes e.
        let r = replies text false (subst (IsReply A Reply before now line a text b) on answered) bytes e in (r.0, r.1, (text, r.2, written))

    -- the line was answered, and the session ends with it
    pub taken_last : (text : List ℕ) (last : Bool) (holds' : Option (List ℕ)) → IsReply A Reply before now line a text b last → last ≡ true → holds' ≡ append_known holds text
        → Taken A Reply before now a start left holds holds' (Some Quit) b used left'
    taken_last text last holds' answered end written = λ bytes e.
        let r = replies text true (subst (IsReply A Reply before now line a text b) end answered) bytes e in (r.0, r.1, (text, r.2, written))

    -- a front part of the reply was written
    pub taken_cut : (text : List ℕ) (last : Bool) (holds' : Option (List ℕ)) → IsReply A Reply before now line a text b last → (n : ℕ) × (n ≤ length text) × (holds' ≡ append_known holds (take n text))
        → Taken A Reply before now a start left holds holds' (Some WriteFault) b used left'
    taken_cut text last holds' answered written = λ bytes e.
        let whole = sym (take-append-drop written.0 text) in
        let r = replies (take written.0 text ++ drop written.0 text) last (subst (λ t. IsReply A Reply before now line a t b last) whole answered) bytes e in
        (r.0, r.1, (take written.0 text, drop written.0 text, last, r.2, written.2))
