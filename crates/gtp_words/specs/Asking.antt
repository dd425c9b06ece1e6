-- Which files a session asks its shelf for.
use Rattle.std.specs.Prelude.{◌≡◌, ◌≢◌, ◌≤◌, ◌⊎◌, ◌++◌, ℕ, zero, suc, List, [], length, Option, Some, None, Result, MatchResult}
use Rattle.desk_io.specs.Lines.{IsLine}
use Rattle.gtp_words.specs.declared.end.GtpEnd.{GtpEnd}
use Rattle.gtp_words.specs.declared.end.GtpEnd.TheVariants.{Memory}
use Rattle.gtp_words.specs.Words.{LineAsks}

-- how the file of a name is asked for, once
abbrev pub Asking : Type 0 → Type 1
Asking H = H → List ℕ → H → Type 0

-- the name of the file that a line asks for, if it asks for one
abbrev pub Naming : Type 1
Naming = List ℕ → Option (List ℕ) → Type 0

-- the name in a line, by what its words ask for
abbrev pub LineName : {A : Type 0} → (List (List ℕ) → A → Type 0) → (A → Option (List ℕ) → Type 0) → Naming
LineName Asks Names line name = LineAsks Asks (name ≡ None) (λ asked. Names asked name) line

-- the file of this name is asked for, once, and no other; or none is
abbrev pub AsksFile : {H : Type 0} → Asking H → Option (List ℕ) → H → H → Type 0
AsksFile asks None s t = t ≡ s
AsksFile asks (Some name) s t = asks s name t

-- the file that is named is asked for, if one is named
abbrev pub AsksNamed : {H : Type 0} → Asking H → (Option (List ℕ) → Type 0) → H → H → Type 0
AsksNamed asks Named s t = (name : Option (List ℕ)) × Named name × AsksFile asks name s t

-- the same; where memory is refused it may not have been asked for
abbrev pub AsksBy : {H A E : Type 0} → Asking H → (Option (List ℕ) → Type 0) → H → H → Result A E → Type 0
AsksBy asks Named s t r = MatchResult r (λ _. AsksNamed asks Named s t) (λ _. (t ≡ s) ⊎ AsksNamed asks Named s t)

-- a line is taken from the front of the bytes, and its file is asked for
abbrev pub AsksOnLine : {H : Type 0} → Asking H → Naming → List ℕ → H → List ℕ → H → Type 0
AsksOnLine asks Named bytes s rest t = (line : List ℕ) × (bytes ≢ []) × IsLine 1024 bytes line rest × AsksNamed asks (Named line) s t

-- so many lines, one after the other
abbrev pub AsksOnLines : {H : Type 0} → Asking H → Naming → ℕ → List ℕ → H → List ℕ → H → Type 0
AsksOnLines {H} asks Named zero bytes s rest t = (rest ≡ bytes) × (t ≡ s)
AsksOnLines {H} asks Named (suc n) bytes s rest u = (behind : List ℕ) × (t : H) × AsksOnLines asks Named n bytes s behind t × AsksOnLine asks Named behind t rest u

-- What a session over the bytes asks for that leaves these bytes unread, by its end: the files of its lines, in their order, and no other.
-- Where memory is refused that of the next line may have been asked for too.
abbrev pub AsksByEnd : {H : Type 0} → Asking H → Naming → List ℕ → H → List ℕ → H → GtpEnd → Type 0
AsksByEnd {H} asks Named bytes s unread u Memory = (n : ℕ) × (t : H) × AsksOnLines asks Named n bytes s unread t
    × ((u ≡ t) ⊎ ((behind : List ℕ) × AsksOnLine asks Named unread t behind u))
AsksByEnd {H} asks Named bytes s unread u end = (n : ℕ) × AsksOnLines asks Named n bytes s unread u

-- these bytes are unread: those that a reader holds, no more than a line may have, and those that the source has left
abbrev pub IsUnread : Option (List ℕ) → List ℕ → Type 0
IsUnread left unread = (held rest : List ℕ) × (length held ≤ 1024) × (left ≡ Some rest) × (unread ≡ held ++ rest)

-- what a session over the bytes asks for, by its end, and what it leaves in the source
abbrev pub AsksInSession : {H : Type 0} → Asking H → Naming → List ℕ → H → Option (List ℕ) → H → GtpEnd → Type 0
AsksInSession asks Named bytes s left t end = (unread : List ℕ) × IsUnread left unread × AsksByEnd asks Named bytes s unread t end
