-- Which files a session has asked for.
use Rattle.std.proofs.Common.{◌≡◌, ◌≢◌, ◌≤◌, ◌⊎◌, ◌++◌, ℕ, suc, List, [], ◌∷◌, length, take, drop, inl, inr, refl, sym, ap, subst, Option, Some, None, Ok, Err, Result, IsErr}
use Rattle.std.proofs.lemmas.Result.{IfOk-from_err}
use Rattle.desk_io.specs.Lines.{IsFound, IsLine, IsSameInput}
use Rattle.desk_io.specs.declared.lines.FoundLine.{FoundLine}
use Rattle.gtp_words.specs.declared.end.GtpEnd.{GtpEnd}
use Rattle.gtp_words.specs.declared.end.GtpEnd.TheVariants.{InputEnded, Memory, Quit, ReadFault, TooManyLines, WriteFault}
use Rattle.gtp_words.specs.Asking.{Asking, AsksBy, AsksInSession, AsksNamed, AsksOnLine, AsksOnLines, IsUnread, Naming}
use Rattle.gtp_words.specs.Words.{AreWords, HasId, LineAsks, cleaned}
use Rattle.gtp_words.specs.inner.Taking.{AskedOnLine}
use Rattle.gtp_words.proofs.TakenLineLemmas.{found_first}

-- what a line with words asks for
pub line_asks : {A : Type 0} (Asks : List (List ℕ) → A → Type 0) (Nothing : Type 0) (IsSuch : A → Type 0) (line id : List ℕ) (words rest : List (List ℕ)) (asked : A) → AreWords (cleaned line) words
    → words ≢ [] → HasId words id rest → Asks rest asked → IsSuch asked → LineAsks Asks Nothing IsSuch line
line_asks Asks Nothing IsSuch line id [] rest asked are some has asks such = absurd (some refl)
line_asks Asks Nothing IsSuch line id (word ∷ words) rest asked are some has asks such = (word ∷ words, are, (id, rest, asked, has, asks, such))

module _ {H A E : Type 0} (asks : Asking H) (Named : Option (List ℕ) → Type 0) (s : H) where
  -- no file is named, and none is asked for
  pub asked_none : (r : Result A E) → Named None → AsksBy asks Named s s r
  asked_none (Ok a) none = (None, none, refl)
  asked_none (Err e) none = inl refl

  -- a file is named, and asked for
  pub asked_once : (r : Result A E) (name : List ℕ) (t : H) → Named (Some name) → asks s name t → AsksBy asks Named s t r
  asked_once (Ok a) name t named asked = (Some name, named, asked)
  asked_once (Err e) name t named asked = inr (Some name, named, asked)

  -- what was asked for, whatever is answered
  pub asked_maybe : (r : Result A E) (t : H) → AsksBy asks Named s t r → (t ≡ s) ⊎ AsksNamed asks Named s t
  asked_maybe (Ok a) t asked = inr asked
  asked_maybe (Err e) t asked = asked

  -- where memory is refused
  pub asked_err : (r : Result A E) (t : H) → IsErr r → (t ≡ s) ⊎ AsksNamed asks Named s t → AsksBy asks Named s t r
  asked_err (Ok a) t refused asked = absurd (IfOk-from_err {T = A} {E = E} (Ok a) (λ _. ⊥) refused)
  asked_err (Err e) t refused asked = asked

  -- where more is named
  pub asked_wider : (Wider : Option (List ℕ) → Type 0) (r : Result A E) (t : H) → ((name : Option (List ℕ)) → Named name → Wider name) → AsksBy asks Named s t r → AsksBy asks Wider s t r
  asked_wider Wider (Ok a) t wider asked = (asked.0, wider asked.0 asked.1, asked.2)
  asked_wider Wider (Err e) t wider (inl none) = inl none
  asked_wider Wider (Err e) t wider (inr asked) = inr (asked.0, wider asked.0 asked.1, asked.2)

module _ {H : Type 0} (asks : Asking H) (Named : Naming) where
  -- what is asked for on one line, whatever the source has left
  abbrev pub AskedBehind : List ℕ → Option (List ℕ) → H → List ℕ → Option (List ℕ) → H → Option GtpEnd → Type 0
  AskedBehind start left s held left' t result = (bytes : List ℕ) → left ≡ Some bytes
      → (rest : List ℕ) × (left' ≡ Some rest) × AskedOnLine asks Named (start ++ bytes) s (held ++ rest) t result

  module _ (start held : List ℕ) (left left' : Option (List ℕ)) (same : IsSameInput start left held left') (s : H) where
    -- a read failed
    pub unasked_unread : AskedBehind start left s held left' s (Some ReadFault)
    unasked_unread = λ bytes e. let r = same bytes e in (r.0, r.1, (sym r.2, refl))

    -- nothing was left
    pub unasked_ended : AskedBehind start left s held left' s (Some InputEnded)
    unasked_ended = λ bytes e. let r = same bytes e in (r.0, r.1, (sym r.2, refl))

    module _ (f : FoundLine) (found : IsFound 1024 held left' (Some f)) (line : List ℕ) (is : line ≡ take f.line held) (t : H) where
      on_line : (used : List ℕ) → used ≡ drop f.taken held → AsksNamed asks (Named line) s t → (bytes : List ℕ) → left ≡ Some bytes
          → (rest : List ℕ) × (left' ≡ Some rest) × AsksOnLine asks Named (start ++ bytes) s (used ++ rest) t
      on_line used behind asked bytes e =
          let r = found_first start held left left' same f found line is bytes e in
          (r.0, r.1, (line, r.2, subst (λ u. IsLine 1024 (start ++ bytes) line (u ++ r.0)) (sym behind) r.3, asked))

      -- memory was refused
      pub asked_waiting : (t ≡ s) ⊎ AsksNamed asks (Named line) s t → AskedBehind start left s held left' t (Some Memory)
      asked_waiting (inl none) = λ bytes e. let r = same bytes e in (r.0, r.1, (sym r.2, inl none))
      asked_waiting (inr asked) = λ bytes e.
          let r = same bytes e in
          (r.0, r.1, (sym r.2, inr (let l = on_line (drop f.taken held) refl asked bytes e in (drop f.taken held ++ l.0, l.2))))

      module _ (used : List ℕ) (behind : used ≡ drop f.taken held) (asked : AsksNamed asks (Named line) s t) where
        -- the line was answered, and the session goes on
        pub asked_on : AskedBehind start left s used left' t None
        asked_on = on_line used behind asked

        -- the line was answered, and the session ends with it
        pub asked_last : AskedBehind start left s used left' t (Some Quit)
        asked_last = on_line used behind asked

        -- the reply could not be written
        pub asked_cut : AskedBehind start left s used left' t (Some WriteFault)
        asked_cut = on_line used behind asked

  -- the files of so many lines were asked for, and these bytes are held
  abbrev pub HasAsked : Option (List ℕ) → H → List ℕ → Option (List ℕ) → H → Type 0
  HasAsked left₀ s held left t = (bytes : List ℕ) → left₀ ≡ Some bytes → (n : ℕ) × (rest : List ℕ) × (left ≡ Some rest) × AsksOnLines asks Named n bytes s (held ++ rest) t

  pub asked_start : (left₀ : Option (List ℕ)) (s : H) (held : List ℕ) → held ≡ [] → HasAsked left₀ s held left₀ s
  asked_start left₀ s held none = λ bytes e. (0, bytes, e, (ap (λ l. l ++ bytes) none, refl))

  module _ (left₀ : Option (List ℕ)) (s : H) (held : List ℕ) (left : Option (List ℕ)) (t : H) (before : HasAsked left₀ s held left t) (held' : List ℕ) (left' : Option (List ℕ)) (u : H) where
    -- a line more
    pub asked_line : AskedBehind held left t held' left' u None → HasAsked left₀ s held' left' u
    asked_line one = λ bytes e.
        let b = before bytes e in let l = one b.1 b.2 in
        (suc b.0, l.0, l.1, (held ++ b.1, t, b.3, l.2))

    unread_here : length held' ≤ 1024 → (rest : List ℕ) → left' ≡ Some rest → IsUnread left' (held' ++ rest)
    unread_here few rest told = (held', rest, few, told, refl)

    -- the session ends
    pub asked_end : (end : GtpEnd) → length held' ≤ 1024 → AskedBehind held left t held' left' u (Some end) → (bytes : List ℕ) → left₀ ≡ Some bytes
        → AsksInSession asks Named bytes s left' u end
    asked_end Quit few one bytes e =
        let b = before bytes e in let l = one b.1 b.2 in
        (held' ++ l.0, unread_here few l.0 l.1, (suc b.0, (held ++ b.1, t, b.3, l.2)))
    asked_end WriteFault few one bytes e =
        let b = before bytes e in let l = one b.1 b.2 in
        (held' ++ l.0, unread_here few l.0 l.1, (suc b.0, (held ++ b.1, t, b.3, l.2)))
    asked_end InputEnded few one bytes e =
        let b = before bytes e in let l = one b.1 b.2 in
        (held' ++ l.0, unread_here few l.0 l.1, (b.0, subst (λ v. AsksOnLines asks Named b.0 bytes s (held' ++ l.0) v) (sym l.2.1) (subst (λ r. AsksOnLines asks Named b.0 bytes s r t) (sym l.2.0) b.3)))
    asked_end ReadFault few one bytes e =
        let b = before bytes e in let l = one b.1 b.2 in
        (held' ++ l.0, unread_here few l.0 l.1, (b.0, subst (λ v. AsksOnLines asks Named b.0 bytes s (held' ++ l.0) v) (sym l.2.1) (subst (λ r. AsksOnLines asks Named b.0 bytes s r t) (sym l.2.0) b.3)))
    asked_end Memory few one bytes e =
        let b = before bytes e in let l = one b.1 b.2 in (
          held' ++ l.0,
          unread_here few l.0 l.1,
          (
            b.0,
            t,
            subst (λ r. AsksOnLines asks Named b.0 bytes s r t) (sym l.2.0) b.3,
            elim l.2.1 [
              | inl none ↦ inl none
              | inr w ↦ inr (w.0, subst (λ r. AsksOnLine asks Named r t w.0 u) (sym l.2.0) w.1)
            ],
          ),
        )
    asked_end TooManyLines few one bytes e = let b = before bytes e in absurd (one b.1 b.2).2

  -- the session ends where no line more may be read
  pub asked_over : (left₀ : Option (List ℕ)) (s : H) (held : List ℕ) (left : Option (List ℕ)) (t : H) → HasAsked left₀ s held left t → length held ≤ 1024 → (bytes : List ℕ) → left₀ ≡ Some bytes
      → AsksInSession asks Named bytes s left t TooManyLines
  asked_over left₀ s held left t before few bytes e = let b = before bytes e in (held ++ b.1, (held, b.1, few, b.2, refl), (b.0, b.3))
