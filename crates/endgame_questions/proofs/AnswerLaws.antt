-- How the parts of a question are answered: the position of a file, and what is read for it.
use Rattle.std.proofs.Common.{◌≡◌, ℕ, ◌⊎◌, inl, arith, inr, refl, sym, ap, subst, ◌∙◌, List, [], ◌++◌, Some, None, Bool, true, false, ◌≢◌}
use Rattle.std.specs.Prelude.{Option}
use Rattle.std.proofs.lemmas.List.{append-nil}
use Rattle.std.specs.Io.KnownBytes.{prepend_known}
use Rattle.std.specs.Str.{bytes_eq}
use Rattle.std.proofs.lemmas.Slice.Eq.{bytes_eq-Decides}
use Rattle.desk_io.specs.Desk.{Input, IsLater, IsRest, Known}
use Rattle.desk_io.specs.Files.{IsTold, Told, told_source}
use Rattle.sgf_go.specs.declared.settings.Settings.{Settings}
use Rattle.go_play.specs.Setup.{Setup}
use Rattle.endgame_questions.specs.declared.terms.GameTerms.{GameTerms}
use Rattle.endgame_solver.specs.declared.faults.SolveError.{SolveError}
use Rattle.endgame_solver.specs.declared.faults.SolveError.TheVariants.{Points, Positions, Cycle, Form}
use Rattle.endgame_solver.specs.declared.faults.SolveError.TheVariants as error
use Rattle.endgame_questions.specs.File.{TakesAtMost, dash, told_of}
use Rattle.endgame_questions.specs.Found.{IsFoundInFile, IsPositionOf}
use Rattle.endgame_questions.specs.Question.{IsPositionAnswer, IsQuestionRefused, IsVerdict}
use Rattle.endgame_questions.specs.Refusal.{HasStatus, IsRefused}
use Rattle.endgame_questions.specs.declared.question.Found.{Found}
use Rattle.endgame_questions.specs.declared.question.Found.TheVariants.{Position}
use Rattle.gd_words.specs.Task.{NeedsRegions, TakesNoCycles}
use Rattle.gd_words.specs.declared.job.Question.{Question}
use Rattle.gd_words.specs.declared.job.Question.TheVariants.{Board, Line, Margin, Moves, Safe, Solve, Values, WithCycles}
use Rattle.endgame_questions.specs.declared.status.Status.{Status}
use Rattle.endgame_questions.specs.declared.status.Status.TheVariants.{BadFile, CannotRead, CannotWrite, Done, Memory, TooLong, TooManyLines, Usage}
use Rattle.endgame_questions.specs.declared.status.Status.TheVariants as status
use Rattle.endgame_questions.specs.inner.File.{IsWhole}
use Rattle.endgame_questions.specs.Written.{Finishes}

-- a position's status is an answer about its file
pub position_answer : (q : Question) (terms : GameTerms) (told : Told) (before now : ℕ) (settings : Settings) (setup : Setup) (s : Status) (text : List ℕ)
    → IsPositionOf told settings setup → IsPositionAnswer q terms setup s text → IsVerdict q terms told before now settings s text
position_answer q terms told before now settings setup Done text p h = (p.file, p.told_so, p.short, (setup, p.reads, h))
position_answer q terms told before now settings setup status.Cycle text p h = (p.file, p.told_so, p.short, (setup, p.reads, h))
position_answer q terms told before now settings setup status.RegionLimit text p h = (p.file, p.told_so, p.short, (setup, p.reads, h))
position_answer q terms told before now settings setup status.FormLimit text p h = (p.file, p.told_so, p.short, (setup, p.reads, h))
position_answer q terms told before now settings setup Usage text p h = absurd h
position_answer q terms told before now settings setup CannotRead text p h = absurd h
position_answer q terms told before now settings setup CannotWrite text p h = absurd h
position_answer q terms told before now settings setup TooLong text p h = absurd h
position_answer q terms told before now settings setup TooManyLines text p h = absurd h
position_answer q terms told before now settings setup Memory text p h = absurd h
position_answer q terms told before now settings setup (BadFile f) text p h = absurd h
position_answer q terms told before now settings setup (status.BadExpression f) text p h = absurd h
position_answer q terms told before now settings setup status.CalcLimit text p h = absurd h
position_answer q terms told before now settings setup status.CaptureLimit text p h = (p.file, p.told_so, p.short, (setup, p.reads, h))

pub found_position : (settings : Settings) (word : List ℕ) (i j : Input) (found : Found) (setup : Setup) → found ≡ Position setup
    → IsFoundInFile settings word i j found → IsPositionOf (told_of i word) settings setup
found_position settings word i j found setup e h = (subst (IsFoundInFile settings word i j) e h).0

-- a position that isn't solved is the answer to that question, which isn't answered
is_refusal : (f : SolveError) (s : Status) → HasStatus f s → (s ≡ status.RegionLimit) ⊎ ((s ≡ status.Cycle) ⊎ (s ≡ status.FormLimit))
is_refusal (Points p n) s h = inl h
is_refusal (Positions p) s h = inl h
is_refusal (Cycle p names back) s h = inr (inl h)
is_refusal (Form p) s h = inr (inr h)
is_refusal (error.Memory e) s h = absurd h

-- a question that needs regions is refused where they are
question_refused : (q : Question) (terms : GameTerms) (setup : Setup) (s : Status) (text : List ℕ) → TakesNoCycles q → NeedsRegions q → IsRefused terms setup s text → IsQuestionRefused q terms setup s text
question_refused Solve terms setup s text plain needs r = r
question_refused Margin terms setup s text plain needs r = r
question_refused Moves terms setup s text plain needs r = r
question_refused Line terms setup s text plain needs r = r
question_refused Values terms setup s text plain needs r = inl r
question_refused Safe terms setup s text plain needs r = absurd needs
question_refused Board terms setup s text plain needs r = absurd needs
question_refused (WithCycles asked) terms setup s text plain needs r = absurd plain

pub refused_answer : (q : Question) (terms : GameTerms) (setup : Setup) (s : Status) (text : List ℕ) → TakesNoCycles q → NeedsRegions q → IsRefused terms setup s text
    → IsPositionAnswer q terms setup s text × (s ≢ Done)
refused_answer q terms setup s text plain needs r = go (is_refusal r.fault s r.status) where
  at : (t : Status) → (IsQuestionRefused q terms setup t text → IsPositionAnswer q terms setup t text) → s ≡ t → IsPositionAnswer q terms setup s text
  at t is e = subst (λ x. IsPositionAnswer q terms setup x text) (sym e) (is (question_refused q terms setup t text plain needs (subst (λ x. IsRefused terms setup x text) e r)))

  go : (s ≡ status.RegionLimit) ⊎ ((s ≡ status.Cycle) ⊎ (s ≡ status.FormLimit)) → IsPositionAnswer q terms setup s text × (s ≢ Done)
  go (inl e) = (at status.RegionLimit (λ x. x) e, λ d. absurd cc)
  go (inr (inl e)) = (at status.Cycle (λ x. x) e, λ d. absurd cc)
  go (inr (inr e)) = (at status.FormLimit (λ x. x) e, λ d. absurd cc)

pub told_is : (before now : Option (List ℕ)) (file : List ℕ) → IsWhole before now file → IsTold (told_source before) file
told_is None now file w = tt
told_is (Some bytes) now file w = let e : now ≡ Some [] = w.end in
    let f : Path (Option (List ℕ)) (Some bytes) (Some (file ++ [])) = w.all ∙ ap (prepend_known file) e in
    let g : bytes ≡ file ++ [] = cc in g ∙ append-nil file

-- either the word is that of the source, or it isn't
pub by_word : (P : Type 0) (word : List ℕ) → (word ≡ dash → P) → (word ≢ dash → P) → P
by_word P word here there = go (bytes_eq word dash) refl where
  go : (b : Bool) → bytes_eq word dash ≡ b → P
  go true e = here ((bytes_eq-Decides word dash).0 e)
  go false e = there (λ k. let t = (bytes_eq-Decides word dash).1 k in cc)

-- what was taken leaves a rest
pub rest_of : (most : ℕ) (before now : Option (List ℕ)) → TakesAtMost most before now → IsRest before now
rest_of most before now h bytes is = let k = h bytes is in (k.0, k.1, k.2, k.3)

-- what nothing was taken of
pub nothing_taken : (most : ℕ) (told : Option (List ℕ)) → TakesAtMost most told told
nothing_taken most told bytes is = ([], bytes, is, refl, omega arith)

pub later_refl : (k : Known) → IsLater k k
later_refl k = record {
  input = record { same_files = refl; loads = omega arith; reads = omega arith; rest = rest_of 0 k.input.left k.input.left (nothing_taken 0 k.input.left) };
  writes = omega arith;
}

-- the text as it was lent
pub finishes_as : (s : Status) (t text : List ℕ) (w x : ℕ) (before now : Option (List ℕ)) (status : Status) → t ≡ text → Finishes s t w x before now status → Finishes s text w x before now status
finishes_as s t text w x before now status e f = subst (λ y. Finishes s y w x before now status) e f

-- the status of a text that was written whole
pub finished_done : (s : Status) (text : List ℕ) (w x : ℕ) (before now : Option (List ℕ)) (status : Status) → Finishes s text w x before now status → status ≡ Done → s ≡ Done
finished_done s text w x before now status (inl f) done = sym f.0 ∙ done
finished_done s text w x before now status (inr f) done = absurd cc
