-- Questions about a position whose regions may have cycles: what they come to, and that they have one status.
use Rattle.std.proofs.Common.{◌≡◌, ℕ, ◌<◌, ◌⊎◌, inl, inr, refl, sym, ap, ◌∙◌, subst, arith, List, length, Ok, Err}
use Rattle.std.proofs.lemmas.Bool.{cases_order}
use Rattle.std.proofs.lemmas.List.Elements.{Contains-get_or}
use Rattle.go_grid.specs.Region.{Region}
use Rattle.region_cut.specs.Cut.{AreRegionsOfPlay}
use Rattle.sgf_go.specs.File.{Reads}
use Rattle.sgf_go.specs.declared.fault.FileFault.{FileFault}
use Rattle.go_play.specs.Setup.{Setup}
use Rattle.sgf_go.proofs.OneReadingLemmas.{not_both, one_fault, one_setup}
use Rattle.gd_words.specs.declared.job.CycleQuestion.{CycleQuestion}
use Rattle.gd_words.specs.declared.job.CycleQuestion.TheVariants as cycle
use Rattle.gd_words.specs.declared.job.Question.{Question}
use Rattle.gd_words.specs.declared.job.Question.TheVariants as question
use Rattle.endgame_solver.specs.Faults.{AreSmallRegions}
use Rattle.endgame_solver.specs.Regions.{no_region, region_at}
use Rattle.endgame_solver.specs.Limits.{Limits}
use Rattle.endgame_questions.specs.declared.terms.GameTerms.{GameTerms}
use Rattle.endgame_solver.proofs.BeginLaws.{one_regions}
use Rattle.cycle_solver.specs.CycleFaults.{AreRefused, AreSteadyWithin, IsFaultOf, IsFirstFault, IsSteadyWithin}
use Rattle.cycle_solver.specs.declared.faults.CycleError.{CycleError}
use Rattle.cycle_solver.specs.declared.faults.CycleError.TheVariants.{Points, Positions, Form, Captures, Memory}
use Rattle.cycle_report.specs.CycleValues.{HasShownValues, IsFirstCycleUnshown}
use Rattle.cycle_report.proofs.CycleValuesLaws.{both_shown, shown_at}
use Rattle.endgame_questions.specs.Cycles.{AreCycleUnshown, HasCycleStatus, IsCycleQuestionRefused, IsCycleRefused, IsCycleText, IsSteadyFor, most_captures}
use Rattle.top_laws.specs.Laws.{HasOneStatus, RefusesUnsteady, ShowsSteady, SolvesSteady}
use Rattle.endgame_questions.specs.Question.{IsPositionAnswer}
use Rattle.endgame_questions.specs.declared.status.Status.{Status}
use Rattle.endgame_questions.specs.declared.status.Status.TheVariants as status
use Rattle.top_laws.proofs.OneStatusLaws.{HasLarge, by_status, file_or_position, large_or_small, plain_status}

-- a steady region has no fault
steady_has_none : (limits : Limits) (r : Region) (f : CycleError) → IsSteadyWithin limits most_captures r → IsFaultOf limits most_captures r f → ⊥
steady_has_none limits r (Points p n) s h = h
steady_has_none limits r (Positions p) s h = s.positions h.1
steady_has_none limits r (Form p) s h = s.forms h.2
steady_has_none limits r (Captures p) s h = let u = h.3 in let k = s.steady u.0 in u.1 k.0 (omega (arith, k.1)) k.2.steady
steady_has_none limits r (Memory e) s h = h

-- the faults of a region have one status
region_status : (limits : Limits) (r : Region) (f g : CycleError) (s t : Status) → IsFaultOf limits most_captures r f → IsFaultOf limits most_captures r g → HasCycleStatus f s → HasCycleStatus g t → s ≡ t
region_status limits r (Points p n) g s t a b x y = absurd a
region_status limits r (Memory e) g s t a b x y = absurd a
region_status limits r f (Points p n) s t a b x y = absurd b
region_status limits r f (Memory e) s t a b x y = absurd b
region_status limits r (Positions p) (Positions q) s t a b x y = x ∙ sym y
region_status limits r (Positions p) (Form q) s t a b x y = absurd (b.1 a.1)
region_status limits r (Positions p) (Captures q) s t a b x y = absurd (b.1 a.1)
region_status limits r (Form p) (Positions q) s t a b x y = absurd (a.1 b.1)
region_status limits r (Form p) (Form q) s t a b x y = x ∙ sym y
region_status limits r (Form p) (Captures q) s t a b x y = absurd (b.2 a.2)
region_status limits r (Captures p) (Positions q) s t a b x y = absurd (a.1 b.1)
region_status limits r (Captures p) (Form q) s t a b x y = absurd (a.2 b.2)
region_status limits r (Captures p) (Captures q) s t a b x y = x ∙ sym y

-- a region of more than 32 points, or else the first fault of a region
abbrev LargeOrFirst : Limits → List Region → CycleError → Status → Type 0
LargeOrFirst limits rs f s = (HasLarge rs × (s ≡ status.RegionLimit)) ⊎ (AreSmallRegions rs × IsFirstFault limits most_captures rs f)

by_size : (limits : Limits) (rs : List Region) (f : CycleError) (s : Status) → AreRefused limits most_captures rs f → HasCycleStatus f s → LargeOrFirst limits rs f s
by_size limits rs (Points p n) s h x = let many : 32 < length (region_at rs h.0).points = omega (arith, h.3, h.4) in inl ((region_at rs h.0, Contains-get_or rs h.0 no_region h.1, many), x)
by_size limits rs (Positions p) s h x = inr h
by_size limits rs (Form p) s h x = inr h
by_size limits rs (Captures p) s h x = inr h
by_size limits rs (Memory e) s h x = absurd x

first_status : (limits : Limits) (rs : List Region) (f g : CycleError) (s t : Status) → IsFirstFault limits most_captures rs f → IsFirstFault limits most_captures rs g → HasCycleStatus f s → HasCycleStatus g t → s ≡ t
first_status limits rs f g s t (k, lt, a, before) (j, lt', b, earlier) x y = elim (cases_order k j) as (λ _. s ≡ t) [
  | inl e ↦ region_status limits (region_at rs j) f g s t (subst (λ i. IsFaultOf limits most_captures (region_at rs i) f) e a) b x y
  | inr (inl less) ↦ absurd (steady_has_none limits (region_at rs k) f (earlier k less) a)
  | inr (inr more) ↦ absurd (steady_has_none limits (region_at rs j) g (before j more) b)
]

refusals : (limits : Limits) (rs : List Region) (f g : CycleError) (s t : Status) → AreRefused limits most_captures rs f → AreRefused limits most_captures rs g → HasCycleStatus f s → HasCycleStatus g t → s ≡ t
refusals limits rs f g s t a b x y = go (by_size limits rs f s a x) (by_size limits rs g t b y) where
  go : LargeOrFirst limits rs f s → LargeOrFirst limits rs g t → s ≡ t
  go (inl l) (inl m) = l.1 ∙ sym m.1
  go (inl l) (inr m) = absurd (large_or_small rs l.0 m.0)
  go (inr l) (inl m) = absurd (large_or_small rs m.0 l.0)
  go (inr l) (inr m) = first_status limits rs f g s t l.1 m.1 x y

steady_or_refused : (limits : Limits) (rs : List Region) (f : CycleError) (s : Status) → AreSteadyWithin limits most_captures rs → AreRefused limits most_captures rs f → HasCycleStatus f s → ⊥
steady_or_refused limits rs f s steady a x = go (by_size limits rs f s a x) where
  go : LargeOrFirst limits rs f s → ⊥
  go (inl l) = large_or_small rs l.0 (λ r h. (steady r h).points)
  go (inr (small, (k, lt, fault, before))) = steady_has_none limits (region_at rs k) f (steady (region_at rs k) (Contains-get_or rs k no_region lt)) fault

-- steady regions aren't refused
steady_clash : (terms : GameTerms) (p : Setup) (s : Status) (b : List ℕ) (regions : List Region) → AreRegionsOfPlay p.board regions → AreSteadyWithin terms.limits most_captures regions
    → IsCycleRefused terms p s b → ⊥
steady_clash terms p s b regions are steady w =
    steady_or_refused terms.limits w.regions w.fault s (subst (AreSteadyWithin terms.limits most_captures) (one_regions p.board regions w.regions are w.are_regions) steady) w.refused w.status

-- refused regions have one status
two_refusals : (terms : GameTerms) (p : Setup) (s t : Status) (a b : List ℕ) → IsCycleRefused terms p s a → IsCycleRefused terms p t b → s ≡ t
two_refusals terms p s t a b v w =
    refusals terms.limits w.regions v.fault w.fault s t (subst (λ l. AreRefused terms.limits most_captures l v.fault) (one_regions p.board v.regions w.regions v.are_regions w.are_regions) v.refused) w.refused v.status w.status

-- what is refused: its regions are, or a value can't be shown
abbrev IsNotAnswered : CycleQuestion → GameTerms → Setup → Status → List ℕ → Type 0
IsNotAnswered q terms p s a = IsCycleRefused terms p s a ⊎ ((q ≡ cycle.Values) × AreCycleUnshown terms p s a)

not_answered : (q : CycleQuestion) (terms : GameTerms) (p : Setup) (s : Status) (a : List ℕ) → IsCycleQuestionRefused q terms p s a → IsNotAnswered q terms p s a
not_answered cycle.Solve terms p s a h = inl h
not_answered cycle.Margin terms p s a h = inl h
not_answered cycle.Moves terms p s a h = inl h
not_answered cycle.Values terms p s a (inl h) = inl h
not_answered cycle.Values terms p s a (inr h) = inr (refl, h)

pub solves_steady : SolvesSteady
solves_steady q terms p regions s a apart are steady h = go (by_status (question.WithCycles q) terms p s a h) where
  go : ((s ≡ status.Done) × IsCycleText q terms p a) ⊎ IsCycleQuestionRefused q terms p s a → s ≡ status.Done
  go (inl v) = v.0
  go (inr w) = elim (not_answered q terms p s a w) [ inl r ↦ absurd (steady_clash terms p s a regions are steady r) | inr u ↦ absurd (apart u.0) ]

-- of regions all of whose values are shown none isn't
shown_clash : (regions others : List Region) (p : ℕ) → others ≡ regions → ((k : ℕ) → k < length regions → HasShownValues (region_at regions k)) → IsFirstCycleUnshown others p → ⊥
shown_clash regions others p same shown first =
    let u = subst (λ rs. IsFirstCycleUnshown rs p) same first in both_shown (region_at regions u.place) (shown u.place u.inside) u.unshown

-- what is answered has steady regions, of which the values are shown where they are asked for
record HasSteady (terms : GameTerms) (p : Setup) : Type 0 where
  regions : List Region
  are_regions : AreRegionsOfPlay p.board regions
  steady : AreSteadyWithin terms.limits most_captures regions

text_steady : (q : CycleQuestion) (terms : GameTerms) (p : Setup) (a : List ℕ) → IsCycleText q terms p a → HasSteady terms p
text_steady q terms p a v = record { regions = v.game.regions; are_regions = v.steady.1; steady = v.steady.2 }

valued_clash : (terms : GameTerms) (p : Setup) (s : Status) (a b : List ℕ) → IsCycleText cycle.Values terms p a → AreCycleUnshown terms p s b → ⊥
valued_clash terms p s a b v w =
    shown_clash v.game.regions w.regions w.point (one_regions p.board w.regions v.game.regions w.are_regions v.steady.1) (shown_at v.game.state.board.columns v.game.regions v.is.lines v.is.are) w.first

pub shows_steady : ShowsSteady
shows_steady = record {
  shown = λ terms p regions s a are steady shown h. elim (by_status (question.WithCycles cycle.Values) terms p s a h) as (λ _. s ≡ status.Done) [
    | inl v ↦ v.0
    | inr (inl w) ↦ absurd (steady_clash terms p s a regions are steady w)
    | inr (inr w) ↦ absurd (shown_clash regions w.regions w.point (one_regions p.board w.regions regions w.are_regions are) shown w.first)
  ];
  unshown = λ terms p regions point s a are steady first h. elim (by_status (question.WithCycles cycle.Values) terms p s a h) as (λ _. s ≡ status.FormLimit) [
    | inl v ↦ absurd (shown_clash v.1.game.regions regions point (one_regions p.board regions v.1.game.regions are v.1.steady.1) (shown_at v.1.game.state.board.columns v.1.game.regions v.1.is.lines v.1.is.are) first)
    | inr (inl w) ↦ absurd (steady_clash terms p s a regions are steady w)
    | inr (inr w) ↦ w.status
  ];
}

-- what is refused for a fault of a region, against an answer
against : (terms : GameTerms) (p : Setup) (regions : List Region) (f : CycleError) (s t : Status) (a : List ℕ) → AreRegionsOfPlay p.board regions → AreRefused terms.limits most_captures regions f → HasCycleStatus f t
    → IsCycleRefused terms p s a → s ≡ t
against terms p regions f s t a are refused x w =
    refusals terms.limits regions w.fault f s t (subst (λ l. AreRefused terms.limits most_captures l w.fault) (one_regions p.board w.regions regions w.are_regions are) w.refused) refused w.status x

never_steady : (terms : GameTerms) (p : Setup) (regions others : List Region) (f : CycleError) (t : Status) → AreRegionsOfPlay p.board regions → AreRefused terms.limits most_captures regions f → HasCycleStatus f t
    → AreRegionsOfPlay p.board others → AreSteadyWithin terms.limits most_captures others → ⊥
never_steady terms p regions others f t are refused x too steady =
    steady_or_refused terms.limits regions f t (subst (AreSteadyWithin terms.limits most_captures) (one_regions p.board others regions too are) steady) refused x

pub refuses_unsteady : RefusesUnsteady
refuses_unsteady q terms p regions f s t a are refused x h = go (by_status (question.WithCycles q) terms p s a h) where
  go : ((s ≡ status.Done) × IsCycleText q terms p a) ⊎ IsCycleQuestionRefused q terms p s a → s ≡ t
  go (inl v) = let k = text_steady q terms p a v.1 in absurd (never_steady terms p regions k.regions f t are refused x k.are_regions k.steady)
  go (inr w) = elim (not_answered q terms p s a w) [
    | inl r ↦ against terms p regions f s t a are refused x r
    | inr u ↦ absurd (never_steady terms p regions u.1.regions f t are refused x u.1.are_regions u.1.steady)
  ]

-- an answer, and a refusal of the same question
clash : (q : CycleQuestion) (terms : GameTerms) (p : Setup) (s : Status) (a b : List ℕ) → IsCycleText q terms p a → IsNotAnswered q terms p s b → ⊥
clash q terms p s a b v (inl r) = let k = text_steady q terms p a v in steady_clash terms p s b k.regions k.are_regions k.steady r
clash q terms p s a b v (inr (is, u)) = valued_clash terms p s a b (subst (λ k. IsCycleText k terms p a) is v) u

-- two refusals of one question
alike : (q : CycleQuestion) (terms : GameTerms) (p : Setup) (s t : Status) (a b : List ℕ) → IsNotAnswered q terms p s a → IsNotAnswered q terms p t b → s ≡ t
alike q terms p s t a b (inl v) (inl w) = two_refusals terms p s t a b v w
alike q terms p s t a b (inl v) (inr (is, w)) = absurd (steady_clash terms p s a w.regions w.are_regions w.steady v)
alike q terms p s t a b (inr (is, v)) (inl w) = absurd (steady_clash terms p t b v.regions v.are_regions v.steady w)
alike q terms p s t a b (inr (is, v)) (inr (so, w)) = v.status ∙ sym w.status

cycle_status : (q : CycleQuestion) (terms : GameTerms) (p : Setup) (s t : Status) (a b : List ℕ) → IsPositionAnswer (question.WithCycles q) terms p s a → IsPositionAnswer (question.WithCycles q) terms p t b → s ≡ t
cycle_status q terms p s t a b x y = go (by_status (question.WithCycles q) terms p s a x) (by_status (question.WithCycles q) terms p t b y) where
  go : ((s ≡ status.Done) × IsCycleText q terms p a) ⊎ IsCycleQuestionRefused q terms p s a → ((t ≡ status.Done) × IsCycleText q terms p b) ⊎ IsCycleQuestionRefused q terms p t b → s ≡ t
  go (inl v) (inl w) = v.0 ∙ sym w.0
  go (inl v) (inr w) = absurd (clash q terms p t a b v.1 (not_answered q terms p t b w))
  go (inr v) (inl w) = absurd (clash q terms p s b a w.1 (not_answered q terms p s a v))
  go (inr v) (inr w) = alike q terms p s t a b (not_answered q terms p s a v) (not_answered q terms p t b w)

-- a question is about a position whose regions may have cycles, or about one whose regions have none
position_status : (q : Question) (terms : GameTerms) (p : Setup) (s t : Status) (a b : List ℕ) → IsPositionAnswer q terms p s a → IsPositionAnswer q terms p t b → s ≡ t
position_status (question.WithCycles q) terms p s t a b x y = cycle_status q terms p s t a b x y
position_status question.Solve terms p s t a b x y = plain_status question.Solve terms p s t a b tt x y
position_status question.Values terms p s t a b x y = plain_status question.Values terms p s t a b tt x y
position_status question.Margin terms p s t a b x y = plain_status question.Margin terms p s t a b tt x y
position_status question.Moves terms p s t a b x y = plain_status question.Moves terms p s t a b tt x y
position_status question.Line terms p s t a b x y = plain_status question.Line terms p s t a b tt x y
position_status question.Safe terms p s t a b x y = plain_status question.Safe terms p s t a b tt x y
position_status question.Board terms p s t a b x y = plain_status question.Board terms p s t a b tt x y

pub one_status : HasOneStatus
one_status q terms file settings s t a b x y = go (file_or_position q terms file settings s a x) (file_or_position q terms file settings t b y) where
  go : ((f : FileFault) × (s ≡ status.BadFile f) × Reads file settings (Err f)) ⊎ ((p : Setup) × Reads file settings (Ok p) × IsPositionAnswer q terms p s a)
      → ((f : FileFault) × (t ≡ status.BadFile f) × Reads file settings (Err f)) ⊎ ((p : Setup) × Reads file settings (Ok p) × IsPositionAnswer q terms p t b) → s ≡ t
  go (inl (f, e, h)) (inl (g, d, k)) = e ∙ ap status.BadFile (one_fault file settings f g h k) ∙ sym d
  go (inl (f, e, h)) (inr (p, k, z)) = absurd (not_both file settings p f k h)
  go (inr (p, h, z)) (inl (g, d, k)) = absurd (not_both file settings p g h k)
  go (inr (p, h, z)) (inr (r, k, w)) = position_status q terms r s t a b (subst (λ v. IsPositionAnswer q terms v s a) (one_setup file settings p r h k) z) w

-- what the question asks for is steady, and so is answered
pub steady_done : (q : CycleQuestion) (terms : GameTerms) (setup : Setup) (s : Status) (text : List ℕ) → IsSteadyFor q terms setup → IsPositionAnswer (question.WithCycles q) terms setup s text → s ≡ status.Done
steady_done cycle.Values terms setup s text w h = shows_steady.shown terms setup w.0 s text w.1 w.2 w.3 h
steady_done cycle.Solve terms setup s text w h = solves_steady cycle.Solve terms setup w.0 s text (λ e. absurd cc) w.1 w.2 h
steady_done cycle.Margin terms setup s text w h = solves_steady cycle.Margin terms setup w.0 s text (λ e. absurd cc) w.1 w.2 h
steady_done cycle.Moves terms setup s text w h = solves_steady cycle.Moves terms setup w.0 s text (λ e. absurd cc) w.1 w.2 h
