-- How many steps a run takes, for the regions that its job needs.
use Rattle.std.proofs.Common.{Bool, true, ◌≡◌, ℕ, zero, suc, ◌≤◌, ◌+◌, ◌++◌, inl, inr, refl, sym, ap, subst, ◌∙◌, arith, List, Some, Ok}
use Rattle.std.specs.Prelude.{IfSome, Option}
use Rattle.desk_io.specs.Desk.{Input}
use Rattle.desk_io.specs.Files.Told.{holding}
use Rattle.desk_io.specs.Files.{Files, IsTold}
use Rattle.go_grid.specs.Region.{Region}
use Rattle.sgf_go.specs.File.{Reads}
use Rattle.go_play.specs.Setup.{Setup}
use Rattle.sgf_go.proofs.OneReadingLemmas.{one_setup}
use Rattle.board_gen.proofs.OneBoardLemmas.{one_board}
use Rattle.gd_words.specs.Job.{Job}
use Rattle.gd_words.specs.declared.job.Question.{Question}
use Rattle.endgame_run.specs.Game.{question_of_game}
use Rattle.gd_words.specs.Task.{Task}
use Rattle.gd_words.specs.Task.Task.{ask, calc, gtp, play, trial}
use Rattle.region_cut.specs.Cut.{AreRegionsOfPlay}
use Rattle.endgame_solver.specs.Faults.{most_steps}
use Rattle.endgame_solver.specs.Limits.{Limits}
use Rattle.gtp_words.specs.declared.end.GtpEnd.{GtpEnd}
use Rattle.gtp_words.specs.declared.end.GtpEnd.TheVariants as end
use Rattle.gtp_words.specs.Sessions.{Answers, Standing, StandsAt, TakesLine, TakesLines, beginning}
use Rattle.gtp_words.specs.Steps.{Counted, StepsByEnd, WithSteps, counted}
use Rattle.endgame_run.specs.Engine.{SessionRules, session_rules}
use Rattle.endgame_questions.specs.File.{told_of}
use Rattle.endgame_run.specs.Limits.{limits_of}
use Rattle.endgame_questions.specs.Question.{AreToldSteps}
use Rattle.endgame_run.specs.Run.{AreTaskSteps}
use Rattle.top_laws.specs.Steps.{AreLinesBefore, HaveLine, IdleTakesNoSteps, IsAbout, NeedsNoRegions, TakesFewSteps, TakesNoSteps}
use Rattle.endgame_questions.specs.Trial.{AreTrialSteps, IsTrialPosition, trial_limits}

-- the steps for the position of a file that is told
told_few : (q : Question) (job : Job) (i : Input) (limits : Limits) (setup : Setup) (regions : List Region) (before now : ℕ) (w word file : List ℕ) → w ≡ word → limits ≡ limits_of job
    → told_of i word ≡ holding file → Reads file job.settings (Ok setup) → AreRegionsOfPlay setup.board regions
    → AreToldSteps q (limits_of job) (told_of i w) job.settings before now → now ≤ before + most_steps limits regions
told_few q job i limits setup regions before now w word file same own told reads are (inl e) = omega (arith, e)
told_few q job i limits setup regions before now w word file same own told reads are (inr (f, p, known, read, few)) =
    let k : IsTold (holding file) f = subst (λ x. IsTold x f) (ap (told_of i) same ∙ told) known in
    let position : p ≡ setup = one_setup file job.settings p setup (subst (λ x. Reads x job.settings (Ok p)) (sym k) read) reads in
    subst (λ l. now ≤ before + most_steps l regions) (sym own) (few.few regions (subst (λ x. AreRegionsOfPlay x.board regions) (sym position) are))

-- the steps for the position of a number
trial_few : (number : ℕ) (limits : Limits) (setup : Setup) (regions : List Region) (before now : ℕ) → limits ≡ trial_limits → IsTrialPosition number setup → AreRegionsOfPlay setup.board regions
    → AreTrialSteps number before now → now ≤ before + most_steps limits regions
trial_few number limits setup regions before now own here are (inl e) = omega (arith, e)
trial_few number limits setup regions before now own here are (inr (p, drawn, few)) =
    let board = one_board number p.board setup.board drawn.board here.board in
    subst (λ l. now ≤ before + most_steps l regions) (sym own) (few regions (subst (λ g. AreRegionsOfPlay g regions) (sym board) are))

module _ (job : Job) (i j : Input) (limits : Limits) (setup : Setup) (regions : List Region) (before now : ℕ) (are : AreRegionsOfPlay setup.board regions) where
  by_file : (q : Question) (w : List ℕ) → ((word file : List ℕ) × (Path (Option (List ℕ)) (Some w) (Some word)) × (limits ≡ limits_of job) × (told_of i word ≡ holding file) × Reads file job.settings (Ok setup))
      → AreToldSteps q (limits_of job) (told_of i w) job.settings before now → now ≤ before + most_steps limits regions
  by_file q w (word, file, is, own, told, reads) s = let same : w ≡ word = cc in told_few q job i limits setup regions before now w word file same own told reads are s

  few : (task : Task) → AreTaskSteps task job i j before now → IsAbout task job i limits setup → now ≤ before + most_steps limits regions
  few (ask q w) s (inl h) = by_file q w h s
  few (play w) s (inl h) = by_file (question_of_game job.cycles) w h s
  few (trial n) s (inl h) = absurd cc
  few (calc e) s (inl h) = absurd cc
  few gtp s (inl h) = absurd cc
  few (trial n) s (inr (number, is, own, here)) =
      let e : number ≡ n = cc in trial_few n limits setup regions before now own (subst (λ m. IsTrialPosition m setup) e here) are s
  few (ask q w) s (inr h) = absurd cc
  few (play w) s (inr h) = absurd cc
  few (calc e) s (inr h) = absurd cc
  few gtp s (inr h) = absurd cc

pub takes_few_steps : TakesFewSteps
takes_few_steps job i j limits setup regions before now s needs are = few job i j limits setup regions before now are job.task s needs

no_steps : (task : Task) (job : Job) (i j : Input) (before now : ℕ) → AreTaskSteps task job i j before now → NeedsNoRegions task → now ≡ before
no_steps (ask q word) job i j before now (inl e) none = e
no_steps (ask q word) job i j before now (inr h) none = h.4.none none
no_steps (calc expression) job i j before now s none = s
no_steps (play word) job i j before now s none = absurd none
no_steps (trial number) job i j before now s none = absurd none
no_steps gtp job i j before now s none = absurd none

pub takes_no_steps : TakesNoSteps
takes_no_steps job i j before now s none = no_steps job.task job i j before now s none

-- a session over bytes none of whose lines takes steps
module _ (r : SessionRules) (files : Option Files) (failing bytes : List ℕ) (idle : (line : List ℕ) → HaveLine bytes line → (s : r.State) (a b : ℕ) → r.Steps s line a b → b ≡ a) where
  abbrev Reply : Answers (Counted r.State)
  Reply = WithSteps r.Steps (r.Reply files)

  idle_turns : (n : ℕ) (a b : Standing (Counted r.State)) (text : List ℕ) → a.left ≡ bytes → TakesLines (Counted r.State) Reply failing n a text b
      → AreLinesBefore n bytes b.left × (b.state.steps ≡ a.state.steps)
  idle_turns zero a b text own (none, is) = (ap (λ c. c.left) is ∙ own, ap (λ c. c.state.steps) is)
  idle_turns (suc n) a c text own (b, (first, then, turns, one, whole)) =
      let h = idle_turns n a b first own turns in
      ((b.left, one.line, h.0, one.taken), idle one.line (n, b.left, c.left, h.0, one.taken) b.state.state b.state.steps c.state.steps one.answered.1 ∙ h.1)

  module _ (start state : r.State) (before now : ℕ) (holds held left : Option (List ℕ)) where
    stands_idle : (c : Standing (Counted r.State)) → StandsAt (Counted r.State) (counted state now) left c → c.state.steps ≡ before → now ≡ before
    stands_idle c stands is = sym (ap (λ s. s.steps) stands.same) ∙ is

    idle_line : (n : ℕ) (b c : Standing (Counted r.State)) (first text : List ℕ) (last : Bool) → TakesLines (Counted r.State) Reply failing n (beginning (counted start before) bytes) first b
        → TakesLine (Counted r.State) Reply failing b text c last → c.state.steps ≡ before
    idle_line n b c first text last turns one =
        let h = idle_turns n (beginning (counted start before) bytes) b first refl turns in
        idle one.line (n, b.left, c.left, h.0, one.taken) b.state.state b.state.steps c.state.steps one.answered.1 ∙ h.1

    idle_end : (final : GtpEnd) → StepsByEnd r.State r.Steps (r.Reply files) failing (counted start before) bytes holds held (counted state now) left final → now ≡ before
    idle_end end.Quit (c, text, stands, session, written) =
        stands_idle c stands (idle_line session.number session.before_end c session.first session.then true session.turns session.ends)
    idle_end end.InputEnded (c, text, stands, session, written) =
        let h = idle_turns session.number (beginning (counted start before) bytes) session.before_end session.first refl session.turns in
        stands_idle c stands (ap (λ b. b.state.steps) session.ends.3 ∙ h.1)
    idle_end end.TooManyLines (c, text, stands, session, written) =
        let h = idle_turns session.number (beginning (counted start before) bytes) session.before_end session.first refl session.turns in
        stands_idle c stands (ap (λ b. b.state.steps) session.ends.2 ∙ h.1)
    idle_end end.ReadFault (c, text, stands, (n, turns, few), written) =
        stands_idle c stands (idle_turns n (beginning (counted start before) bytes) c text refl turns).1
    idle_end end.WriteFault (c, text, stands, (n, b, first, then, more, last, turns, one, whole), written) =
        stands_idle c stands (idle_line n b c first (then ++ more) last turns one)
    idle_end end.Memory (c, text, stands, (n, turns, few), written, tries) =
        let h = idle_turns n (beginning (counted start before) bytes) c text refl turns in
        elim tries [
          | inl none ↦ none ∙ h.1
          | inr (line, rest, some, is, steps) ↦ idle line (n, c.left, rest, h.0, is) c.state.state c.state.steps now steps ∙ h.1
        ]

told_bytes : (P : List ℕ → Type 0) (left : Option (List ℕ)) (bytes : List ℕ) → left ≡ Some bytes → IfSome left P → P bytes
told_bytes P left bytes is h = subst (λ l. IfSome l P) is h

pub idle_takes_no_steps : IdleTakesNoSteps
idle_takes_no_steps job i j bytes before now steps told idle =
    let h = told_bytes _ i.left bytes told steps.told in
    idle_end (session_rules job) i.files h.0 bytes idle (session_rules job).start h.2.0 before now h.2.2 h.2.3 j.left h.2.1 h.2.4
