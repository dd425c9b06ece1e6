-- A question about a file has one status.
use Rattle.std.proofs.Common.{◌≡◌, ℕ, ◌<◌, ◌⊎◌, inl, inr, refl, sym, ◌∙◌, subst, arith, List, length, Ok, Err}
use Rattle.std.specs.List.{Contains}
use Rattle.std.proofs.lemmas.Bool.{cases_order}
use Rattle.std.proofs.lemmas.List.Elements.{Contains-get_or}
use Rattle.go_grid.specs.Region.{Region}
use Rattle.sgf_go.specs.declared.settings.Settings.{Settings}
use Rattle.go_play.specs.Setup.{Setup}
use Rattle.endgame_solver.specs.Limits.{Limits}
use Rattle.endgame_questions.specs.declared.terms.GameTerms.{GameTerms}
use Rattle.endgame_solver.specs.declared.faults.SolveError.{SolveError}
use Rattle.endgame_solver.specs.declared.faults.SolveError.TheVariants.{Points, Positions, Cycle, Form, Memory}
use Rattle.endgame_solver.specs.Faults.{AreRefused, AreSmallRegions, AreSound, IsFaultOf, IsFirstFault, IsSound}
use Rattle.region_cut.specs.Cut.{AreRegionsOfPlay}
use Rattle.endgame_solver.specs.Regions.{no_region, region_at}
use Rattle.endgame_questions.specs.declared.status.Status.{Status}
use Rattle.endgame_questions.specs.declared.status.Status.TheVariants as status
use Rattle.sgf_go.specs.declared.fault.FileFault.{FileFault}
use Rattle.gd_words.specs.Task.{NeedsRegions, TakesNoCycles}
use Rattle.gd_words.specs.declared.job.Question.{Question}
use Rattle.gd_words.specs.declared.job.Question.TheVariants as question
use Rattle.top_laws.specs.Laws.{RefusesFaults, RefusesUnshown, ShowsShown, SolvesSound}
use Rattle.sgf_go.specs.File.{Reads}
use Rattle.endgame_questions.specs.Refusal.{HasStatus, IsRefused}
use Rattle.endgame_questions.specs.Question.{IsFileAnswer, IsPositionAnswer, IsQuestionRefused, IsTextOf}
use Rattle.endgame_questions.specs.Values.{AreUnshown, IsValued}
use Rattle.endgame_solver.proofs.GraphLaws.{one_value}
use Rattle.report.specs.Values.{HasShownValue, IsFirstUnshown, IsUnshown}
use Rattle.report.proofs.ValuesLaws.{shown_at}
use Rattle.endgame_solver.proofs.BeginLaws.{one_regions}

-- a sound region has no fault
sound_has_none : (limits : Limits) (r : Region) (f : SolveError) → IsSound limits r → IsFaultOf limits r f → ⊥
sound_has_none limits r (Points p n) s h = h
sound_has_none limits r (Positions p) s h = s.positions h.1
sound_has_none limits r (Cycle p names back) s h = s.no_cycle h.2.0 back h.2.1
sound_has_none limits r (Form p) s h = s.forms h.3
sound_has_none limits r (Memory e) s h = h

-- the faults of a region have one status
region_status : (limits : Limits) (r : Region) (f g : SolveError) (s t : Status) → IsFaultOf limits r f → IsFaultOf limits r g → HasStatus f s → HasStatus g t → s ≡ t
region_status limits r (Points p n) g s t a b x y = absurd a
region_status limits r (Memory e) g s t a b x y = absurd a
region_status limits r f (Points p n) s t a b x y = absurd b
region_status limits r f (Memory e) s t a b x y = absurd b
region_status limits r (Positions p) (Positions q) s t a b x y = x ∙ sym y
region_status limits r (Positions p) (Cycle q names back) s t a b x y = absurd (b.1 a.1)
region_status limits r (Positions p) (Form q) s t a b x y = absurd (b.1 a.1)
region_status limits r (Cycle p names back) (Positions q) s t a b x y = absurd (a.1 b.1)
region_status limits r (Cycle p names back) (Cycle q others forth) s t a b x y = x ∙ sym y
region_status limits r (Cycle p names back) (Form q) s t a b x y = absurd (b.2 a.2.0 back a.2.1)
region_status limits r (Form p) (Positions q) s t a b x y = absurd (a.1 b.1)
region_status limits r (Form p) (Cycle q names back) s t a b x y = absurd (a.2 b.2.0 back b.2.1)
region_status limits r (Form p) (Form q) s t a b x y = x ∙ sym y

-- a region of more than 32 points, or else the first fault of a region
abbrev pub HasLarge : List Region → Type 0
HasLarge rs = (r : Region) × Contains rs r × (32 < length r.points)

by_size : (limits : Limits) (rs : List Region) (f : SolveError) (s : Status) → AreRefused limits rs f → HasStatus f s
    → (HasLarge rs × (s ≡ status.RegionLimit)) ⊎ (AreSmallRegions rs × IsFirstFault limits rs f)
by_size limits rs (Points p n) s h x = let many : 32 < length (region_at rs h.0).points = omega (arith, h.3, h.4) in inl ((region_at rs h.0, Contains-get_or rs h.0 no_region h.1, many), x)
by_size limits rs (Positions p) s h x = inr h
by_size limits rs (Cycle p names back) s h x = inr h
by_size limits rs (Form p) s h x = inr h
by_size limits rs (Memory e) s h x = absurd x

pub large_or_small : (rs : List Region) → HasLarge rs → AreSmallRegions rs → ⊥
large_or_small rs (r, among, large) small = let few = small r among in absurd (omega (arith, few, large))

first_status : (limits : Limits) (rs : List Region) (f g : SolveError) (s t : Status) → IsFirstFault limits rs f → IsFirstFault limits rs g → HasStatus f s → HasStatus g t → s ≡ t
first_status limits rs f g s t (k, lt, a, before) (j, lt', b, earlier) x y = elim (cases_order k j) as (λ _. s ≡ t) [
  | inl e ↦ region_status limits (region_at rs j) f g s t (subst (λ i. IsFaultOf limits (region_at rs i) f) e a) b x y
  | inr (inl less) ↦ absurd (sound_has_none limits (region_at rs k) f (earlier k less) a)
  | inr (inr more) ↦ absurd (sound_has_none limits (region_at rs j) g (before j more) b)
]

refusals : (limits : Limits) (rs : List Region) (f g : SolveError) (s t : Status) → AreRefused limits rs f → AreRefused limits rs g → HasStatus f s → HasStatus g t → s ≡ t
refusals limits rs f g s t a b x y = go (by_size limits rs f s a x) (by_size limits rs g t b y) where
  go : (HasLarge rs × (s ≡ status.RegionLimit)) ⊎ (AreSmallRegions rs × IsFirstFault limits rs f) → (HasLarge rs × (t ≡ status.RegionLimit)) ⊎ (AreSmallRegions rs × IsFirstFault limits rs g) → s ≡ t
  go (inl l) (inl m) = l.1 ∙ sym m.1
  go (inl l) (inr m) = absurd (large_or_small rs l.0 m.0)
  go (inr l) (inl m) = absurd (large_or_small rs m.0 l.0)
  go (inr l) (inr m) = first_status limits rs f g s t l.1 m.1 x y

sound_or_refused : (limits : Limits) (rs : List Region) (f : SolveError) (s : Status) → AreSound limits rs → AreRefused limits rs f → HasStatus f s → ⊥
sound_or_refused limits rs f s sound a x = go (by_size limits rs f s a x) where
  go : (HasLarge rs × (s ≡ status.RegionLimit)) ⊎ (AreSmallRegions rs × IsFirstFault limits rs f) → ⊥
  go (inl l) = large_or_small rs l.0 (λ r h. (sound r h).points)
  go (inr (small, (k, lt, fault, before))) = sound_has_none limits (region_at rs k) f (sound (region_at rs k) (Contains-get_or rs k no_region lt)) fault

-- a question about a position is answered or refused
pub by_status : (q : Question) (terms : GameTerms) (p : Setup) (s : Status) (a : List ℕ) → IsPositionAnswer q terms p s a → ((s ≡ status.Done) × IsTextOf q terms p a) ⊎ IsQuestionRefused q terms p s a
by_status q terms p status.Done a h = inl (refl, h)
by_status q terms p status.Cycle a h = inr h
by_status q terms p status.RegionLimit a h = inr h
by_status q terms p status.FormLimit a h = inr h
by_status q terms p status.Usage a h = absurd h
by_status q terms p status.CannotRead a h = absurd h
by_status q terms p status.CannotWrite a h = absurd h
by_status q terms p (status.BadFile f) a h = absurd h
by_status q terms p status.Memory a h = absurd h
by_status q terms p status.TooLong a h = absurd h
by_status q terms p status.TooManyLines a h = absurd h
by_status q terms p (status.BadExpression f) a h = absurd h
by_status q terms p status.CalcLimit a h = absurd h
by_status q terms p status.CaptureLimit a h = inr h

-- what is answered has sound regions, where it needs them
record HasSound (terms : GameTerms) (p : Setup) : Type 0 where
  regions : List Region
  are_regions : AreRegionsOfPlay p.board regions
  sound : AreSound terms.limits regions

text_sound : (q : Question) (terms : GameTerms) (p : Setup) (a : List ℕ) → TakesNoCycles q → NeedsRegions q → IsTextOf q terms p a → HasSound terms p
text_sound question.Solve terms p a plain needs v = record { regions = v.regions; are_regions = v.are_regions; sound = v.sound }
text_sound question.Values terms p a plain needs v = record { regions = v.regions; are_regions = v.are_regions; sound = v.sound }
text_sound question.Margin terms p a plain needs v = record { regions = v.regions; are_regions = v.are_regions; sound = v.sound }
text_sound question.Moves terms p a plain needs v = record { regions = v.regions; are_regions = v.are_regions; sound = v.sound }
text_sound question.Line terms p a plain needs v = record { regions = v.regions; are_regions = v.are_regions; sound = v.sound }
text_sound question.Safe terms p a plain needs v = absurd needs
text_sound question.Board terms p a plain needs v = absurd needs
text_sound (question.WithCycles asked) terms p a plain needs v = absurd plain

-- what is refused needs regions: these are refused, or a value can't be shown
abbrev IsNotAnswered : Question → GameTerms → Setup → Status → List ℕ → Type 0
IsNotAnswered q terms p s a = NeedsRegions q × (IsRefused terms p s a ⊎ ((q ≡ question.Values) × AreUnshown terms p s a))

not_answered : (q : Question) (terms : GameTerms) (p : Setup) (s : Status) (a : List ℕ) → TakesNoCycles q → IsQuestionRefused q terms p s a → IsNotAnswered q terms p s a
not_answered question.Solve terms p s a plain h = (tt, inl h)
not_answered question.Margin terms p s a plain h = (tt, inl h)
not_answered question.Moves terms p s a plain h = (tt, inl h)
not_answered question.Line terms p s a plain h = (tt, inl h)
not_answered question.Values terms p s a plain (inl h) = (tt, inl h)
not_answered question.Values terms p s a plain (inr h) = (tt, inr (refl, h))
not_answered question.Safe terms p s a plain h = absurd h
not_answered question.Board terms p s a plain h = absurd h
not_answered (question.WithCycles asked) terms p s a plain h = absurd plain

-- sound regions aren't refused
sound_clash : (terms : GameTerms) (p : Setup) (s : Status) (b : List ℕ) (regions : List Region) → AreRegionsOfPlay p.board regions → AreSound terms.limits regions → IsRefused terms p s b → ⊥
sound_clash terms p s b regions are sound w =
    sound_or_refused terms.limits w.regions w.fault s (subst (AreSound terms.limits) (one_regions p.board regions w.regions are w.are_regions) sound) w.refused w.status

-- refused regions have one status
two_refusals : (terms : GameTerms) (p : Setup) (s t : Status) (a b : List ℕ) → IsRefused terms p s a → IsRefused terms p t b → s ≡ t
two_refusals terms p s t a b v w =
    refusals terms.limits w.regions v.fault w.fault s t (subst (λ l. AreRefused terms.limits l v.fault) (one_regions p.board v.regions w.regions v.are_regions w.are_regions) v.refused) w.refused v.status w.status

pub solves_sound : SolvesSound
solves_sound q terms p regions s a plain apart are sound h = go (by_status q terms p s a h) where
  go : ((s ≡ status.Done) × IsTextOf q terms p a) ⊎ IsQuestionRefused q terms p s a → s ≡ status.Done
  go (inl v) = v.0
  go (inr w) = elim (not_answered q terms p s a plain w).1 [ inl r ↦ absurd (sound_clash terms p s a regions are sound r) | inr u ↦ absurd (apart u.0) ]

-- of regions all of whose values are shown none isn't
shown_clash : (regions others : List Region) (p : ℕ) → others ≡ regions → ((k : ℕ) → k < length regions → HasShownValue (region_at regions k)) → IsFirstUnshown others p → ⊥
shown_clash regions others p same shown first =
    let u = subst (λ rs. IsFirstUnshown rs p) same first in
    let r = region_at regions u.place in
    let value = shown u.place u.inside in
    value.2 (subst IsUnshown (one_value r.touch r.cells u.unshown.0 value.0 u.unshown.1 value.1) u.unshown.2)

valued_clash : (terms : GameTerms) (p : Setup) (s : Status) (a b : List ℕ) → IsValued terms p a → AreUnshown terms p s b → ⊥
valued_clash terms p s a b v w =
    shown_clash v.regions w.regions w.point (one_regions p.board w.regions v.regions w.are_regions v.are_regions) (λ k lt. shown_at v.regions v.is.entries v.is.are k lt) w.first

pub shows_shown : ShowsShown
shows_shown terms p regions s a are sound shown h = go (by_status question.Values terms p s a h) where
  go : ((s ≡ status.Done) × IsValued terms p a) ⊎ (IsRefused terms p s a ⊎ AreUnshown terms p s a) → s ≡ status.Done
  go (inl v) = v.0
  go (inr (inl w)) = absurd (sound_clash terms p s a regions are sound w)
  go (inr (inr w)) = absurd (shown_clash regions w.regions w.point (one_regions p.board w.regions regions w.are_regions are) shown w.first)

pub refuses_unshown : RefusesUnshown
refuses_unshown terms p regions point s a are sound first h = go (by_status question.Values terms p s a h) where
  go : ((s ≡ status.Done) × IsValued terms p a) ⊎ (IsRefused terms p s a ⊎ AreUnshown terms p s a) → s ≡ status.FormLimit
  go (inl v) = absurd (shown_clash v.1.regions regions point (one_regions p.board regions v.1.regions are v.1.are_regions) (λ k lt. shown_at v.1.regions v.1.is.entries v.1.is.are k lt) first)
  go (inr (inl w)) = absurd (sound_clash terms p s a regions are sound w)
  go (inr (inr w)) = w.status

-- what is refused for a fault of a region, against an answer
against : (terms : GameTerms) (p : Setup) (regions : List Region) (f : SolveError) (s t : Status) (a : List ℕ) → AreRegionsOfPlay p.board regions → AreRefused terms.limits regions f → HasStatus f t
    → IsRefused terms p s a → s ≡ t
against terms p regions f s t a are refused x w =
    refusals terms.limits regions w.fault f s t (subst (λ l. AreRefused terms.limits l w.fault) (one_regions p.board w.regions regions w.are_regions are) w.refused) refused w.status x

never_sound : (terms : GameTerms) (p : Setup) (regions others : List Region) (f : SolveError) (t : Status) → AreRegionsOfPlay p.board regions → AreRefused terms.limits regions f → HasStatus f t
    → AreRegionsOfPlay p.board others → AreSound terms.limits others → ⊥
never_sound terms p regions others f t are refused x too sound =
    sound_or_refused terms.limits regions f t (subst (AreSound terms.limits) (one_regions p.board others regions too are) sound) refused x

pub refuses_faults : RefusesFaults
refuses_faults q terms p regions f s t a plain needs are refused x h = go (by_status q terms p s a h) where
  go : ((s ≡ status.Done) × IsTextOf q terms p a) ⊎ IsQuestionRefused q terms p s a → s ≡ t
  go (inl v) = let k = text_sound q terms p a plain needs v.1 in absurd (never_sound terms p regions k.regions f t are refused x k.are_regions k.sound)
  go (inr w) = elim (not_answered q terms p s a plain w).1 [
    | inl r ↦ against terms p regions f s t a are refused x r
    | inr u ↦ absurd (never_sound terms p regions u.1.regions f t are refused x u.1.are_regions u.1.sound)
  ]

-- an answer, and a refusal of the same question
clash : (q : Question) (terms : GameTerms) (p : Setup) (s : Status) (a b : List ℕ) → TakesNoCycles q → IsTextOf q terms p a → IsNotAnswered q terms p s b → ⊥
clash q terms p s a b plain v (needs, inl r) = let k = text_sound q terms p a plain needs v in sound_clash terms p s b k.regions k.are_regions k.sound r
clash q terms p s a b plain v (needs, inr (is, u)) = valued_clash terms p s a b (subst (λ k. IsTextOf k terms p a) is v) u

-- two refusals of one question
alike : (q : Question) (terms : GameTerms) (p : Setup) (s t : Status) (a b : List ℕ) → IsNotAnswered q terms p s a → IsNotAnswered q terms p t b → s ≡ t
alike q terms p s t a b (n, inl v) (m, inl w) = two_refusals terms p s t a b v w
alike q terms p s t a b (n, inl v) (m, inr (is, w)) = absurd (sound_clash terms p s a w.regions w.are_regions w.sound v)
alike q terms p s t a b (n, inr (is, v)) (m, inl w) = absurd (sound_clash terms p t b v.regions v.are_regions v.sound w)
alike q terms p s t a b (n, inr (is, v)) (m, inr (so, w)) = v.status ∙ sym w.status

pub plain_status : (q : Question) (terms : GameTerms) (p : Setup) (s t : Status) (a b : List ℕ) → TakesNoCycles q → IsPositionAnswer q terms p s a → IsPositionAnswer q terms p t b → s ≡ t
plain_status q terms p s t a b plain x y = go (by_status q terms p s a x) (by_status q terms p t b y) where
  go : ((s ≡ status.Done) × IsTextOf q terms p a) ⊎ IsQuestionRefused q terms p s a → ((t ≡ status.Done) × IsTextOf q terms p b) ⊎ IsQuestionRefused q terms p t b → s ≡ t
  go (inl v) (inl w) = v.0 ∙ sym w.0
  go (inl v) (inr w) = absurd (clash q terms p t a b plain v.1 (not_answered q terms p t b plain w))
  go (inr v) (inl w) = absurd (clash q terms p s b a plain w.1 (not_answered q terms p s a plain v))
  go (inr v) (inr w) = alike q terms p s t a b (not_answered q terms p s a plain v) (not_answered q terms p t b plain w)

-- a question that needs no regions is about none that may have cycles
needs_none : (q : Question) → ¬ NeedsRegions q → TakesNoCycles q
needs_none (question.WithCycles asked) none = none tt
needs_none question.Solve none = tt
needs_none question.Values none = tt
needs_none question.Margin none = tt
needs_none question.Moves none = tt
needs_none question.Line none = tt
needs_none question.Safe none = tt
needs_none question.Board none = tt

-- a question that needs no regions is answered
pub plain_done : (q : Question) (terms : GameTerms) (p : Setup) (s : Status) (a : List ℕ) → ¬ NeedsRegions q → IsPositionAnswer q terms p s a → s ≡ status.Done
plain_done q terms p s a none h = elim (by_status q terms p s a h) [ inl v ↦ v.0 | inr w ↦ absurd (none (not_answered q terms p s a (needs_none q none) w).0) ]

-- a file has a fault, or a position whose status it is
pub file_or_position : (q : Question) (terms : GameTerms) (file : List ℕ) (settings : Settings) (s : Status) (a : List ℕ) → IsFileAnswer q terms file settings s a
    → ((f : FileFault) × (s ≡ status.BadFile f) × Reads file settings (Err f)) ⊎ ((p : Setup) × Reads file settings (Ok p) × IsPositionAnswer q terms p s a)
file_or_position q terms file settings (status.BadFile f) a h = inl (f, refl, h.0)
file_or_position q terms file settings status.Done a h = inr h
file_or_position q terms file settings status.Cycle a h = inr h
file_or_position q terms file settings status.RegionLimit a h = inr h
file_or_position q terms file settings status.FormLimit a h = inr h
file_or_position q terms file settings status.Usage a h = inr h
file_or_position q terms file settings status.CannotRead a h = inr h
file_or_position q terms file settings status.CannotWrite a h = inr h
file_or_position q terms file settings status.Memory a h = inr h
file_or_position q terms file settings status.TooLong a h = inr h
file_or_position q terms file settings status.TooManyLines a h = inr h
file_or_position q terms file settings (status.BadExpression f) a h = inr h
file_or_position q terms file settings status.CalcLimit a h = inr h
file_or_position q terms file settings status.CaptureLimit a h = inr h
