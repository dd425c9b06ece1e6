-- How many steps a session takes.
use Rattle.std.specs.Prelude.{Bool, ◌≡◌, ◌≢◌, ◌≤◌, ◌⊎◌, ℕ, zero, suc, List, [], Option}
use Rattle.std.specs.Io.KnownBytes.{append_known}
use Rattle.desk_io.specs.Lines.{IsLine}
use Rattle.gtp_words.specs.declared.end.GtpEnd.{GtpEnd}
use Rattle.gtp_words.specs.declared.end.GtpEnd.TheVariants.{Memory}
use Rattle.gtp_words.specs.Loads.{Fate}
use Rattle.gtp_words.specs.Sessions.{Answers, Standing, StandsAt, Waits, WritesByEnd, beginning}

-- the steps of a line in a state: from which count to which
abbrev pub LineSteps : Type 0 → Type 1
LineSteps A = A → List ℕ → ℕ → ℕ → Type 0

-- a state, and how many steps were taken before it
pub record Counted (A : Type 0) : Type 0 where
  pub state : A
  pub steps : ℕ

-- the state with this count of steps
abbrev pub counted : {A : Type 0} → A → ℕ → Counted A
counted state steps = record { state = state; steps = steps }

-- what is replied to a line, with the steps of the line in the state in which it is answered
abbrev pub WithSteps : {A : Type 0} → LineSteps A → Answers A → Answers (Counted A)
WithSteps Steps Reply line fate a text b last = Reply line fate a.state text b.state last × Steps a.state line a.steps b.steps

-- so many lines are answered one after the other, with the steps of each
abbrev pub AnswersInSteps : {A : Type 0} → LineSteps A → Answers A → ℕ → Counted A → Counted A → Type 0
AnswersInSteps Steps Reply zero a b = b ≡ a
AnswersInSteps {A} Steps Reply (suc n) a c = (b : Counted A) × AnswersInSteps Steps Reply n a b
    × ((line text : List ℕ) × (fate : Fate) × (last : Bool) × WithSteps Steps Reply line fate b text c last)

-- The steps of a session, whether or not its source tells its bytes: those of each line that was answered, of at most so many. Those of one
-- that isn't answered may come to them.
abbrev pub StepsOfLines : {A : Type 0} → LineSteps A → Answers A → ℕ → Counted A → Counted A → Type 0
StepsOfLines {A} Steps Reply most a b = (n : ℕ) × (n ≤ most) × (c : Counted A) × AnswersInSteps Steps Reply n a c × (b.state ≡ c.state)
    × ((b.steps ≡ c.steps) ⊎ ((line : List ℕ) × Steps c.state line c.steps b.steps))

-- no steps were taken since, or those of the next line, which isn't answered
abbrev pub TriesLine : {A : Type 0} → LineSteps A → Standing (Counted A) → ℕ → Type 0
TriesLine Steps c now = (now ≡ c.state.steps)
    ⊎ ((line rest : List ℕ) × (c.left ≢ []) × IsLine 1024 c.left line rest × Steps c.state.state line c.state.steps now)

-- What a session over the bytes has written, by its end, where it stands, and the steps of each line that was answered. Where memory is
-- refused those of the next line may come to them.
abbrev pub StepsByEnd : (A : Type 0) → LineSteps A → Answers A → List ℕ → Counted A → List ℕ → Option (List ℕ) → Option (List ℕ) → Counted A → Option (List ℕ) → GtpEnd → Type 0
StepsByEnd A Steps Reply failing start bytes before now at left Memory = (c : Standing (Counted A)) × (text : List ℕ) × StandsAt (Counted A) (counted at.state c.state.steps) left c
    × Waits (Counted A) (WithSteps Steps Reply) failing (beginning start bytes) text c × (now ≡ append_known before text) × TriesLine Steps c at.steps
StepsByEnd A Steps Reply failing start bytes before now at left end = WritesByEnd (Counted A) (WithSteps Steps Reply) failing start bytes before now at left end
