-- Where alike states reply alike, a session has one text.
use Rattle.std.specs.Prelude.{Bool, true, false, ◌≡◌, ◌⊎◌, ℕ, List, ◌++◌}
use Rattle.gtp_words.specs.declared.end.GtpEnd.{GtpEnd}
use Rattle.gtp_words.specs.Loads.{Fate}
use Rattle.gtp_words.specs.Loads.Fate.{no_load, made, failed}
use Rattle.gtp_words.specs.Sessions.{Answers, BreaksOff, IsSession, Standing, Waits}

-- whether a line has a load, by what becomes of it
abbrev pub has_load : Fate → Bool
has_load no_load = false
has_load made = true
has_load failed = true

-- Alike states reply alike: to a line with a load in both or in neither; and where the same becomes of it the texts are equal, the states
-- after it are alike, and the session ends in both or in neither.
pub record ReplyAlike (A : Type 0) (Reply : Answers A) (Alike : A → A → Type 0) : Type 0 where
  pub loads : (line : List ℕ) (fate other : Fate) (a b c d : A) (s t : List ℕ) (last final : Bool) → Alike a b → Reply line fate a s c last
      → Reply line other b t d final → has_load fate ≡ has_load other
  pub replies : (line : List ℕ) (fate : Fate) (a b c d : A) (s t : List ℕ) (last final : Bool) → Alike a b → Reply line fate a s c last
      → Reply line fate b t d final → (s ≡ t) × Alike c d × (last ≡ final)

-- two sessions stand alike: in alike states, with as many loads, as many lines read and the same bytes left
pub record StandAlike (A : Type 0) (Alike : A → A → Type 0) (a b : Standing A) : Type 0 where
  pub state : Alike a.state b.state
  pub loads : a.loads ≡ b.loads
  pub read : a.read ≡ b.read
  pub left : a.left ≡ b.left

-- where alike states reply alike, two sessions that begin alike have one text and one end, and end alike, where the same loads fail
abbrev pub HaveOneText : (A : Type 0) → Answers A → (A → A → Type 0) → Type 0
HaveOneText A Reply Alike = ReplyAlike A Reply Alike → (failing : List ℕ) (a b c d : Standing A) (s t : List ℕ) (end final : GtpEnd)
    → StandAlike A Alike a b → IsSession A Reply failing a s c end → IsSession A Reply failing b t d final
    → (s ≡ t) × StandAlike A Alike c d × (end ≡ final)

-- where alike states reply alike, what waits or breaks off is a front part of the text of each session that begins alike, where the same
-- loads fail
abbrev pub HaveOneBeginning : (A : Type 0) → Answers A → (A → A → Type 0) → Type 0
HaveOneBeginning A Reply Alike = ReplyAlike A Reply Alike → (failing : List ℕ) (a b c d : Standing A) (s t : List ℕ) (end : GtpEnd)
    → StandAlike A Alike a b → Waits A Reply failing a s c ⊎ BreaksOff A Reply failing a s c → IsSession A Reply failing b t d end
    → (more : List ℕ) × (t ≡ s ++ more)
