-- What a game with cycles, or its refusal, answers.
use Rattle.std.proofs.Common.{◌≡◌, ◌≢◌, ℤ, ℕ, ◌<◌, ◌⊎◌, inl, inr, refl, sym, ap, ◌∙◌, subst, List, length, Ok, Err}
use Rattle.go_play.specs.Setup.{Setup}
use Rattle.gd_words.specs.declared.job.CycleQuestion.{CycleQuestion}
use Rattle.gd_words.specs.declared.job.CycleQuestion.TheVariants as cycle
use Rattle.gd_words.specs.declared.job.Question.TheVariants as question
use Rattle.endgame_solver.specs.Solved.{Solved}
use Rattle.endgame_questions.specs.declared.terms.GameTerms.{GameTerms}
use Rattle.cycle_solver.specs.Begun.{Begun}
use Rattle.cycle_solver.specs.declared.faults.CycleError.{CycleError}
use Rattle.cycle_solver.specs.declared.faults.CycleError.TheVariants.{Points, Positions, Form, Captures, Memory}
use Rattle.endgame_questions.specs.Cycles.{HasCycleStatus, IsCycleQuestionRefused, IsCycleRefused, NamesCyclePoints, cycle_refusal_line, most_captures}
use Rattle.endgame_questions.specs.Question.{IsPositionAnswer}
use Rattle.endgame_questions.specs.Refusal.{form_line}
use Rattle.endgame_questions.specs.declared.status.Status.{Status}
use Rattle.endgame_questions.specs.declared.status.Status.TheVariants as status
use Rattle.endgame_questions.specs.inner.Reports.{IsCycleReport, IsCycleValuesReport}
use Rattle.fault_words.proofs.NamedPointLemmas.{lowest_on_board}

-- the points that a fault names are points of the board
pub names_cycle_points : (setup : Setup) (terms : GameTerms) (fault : CycleError) → Begun setup terms.tax terms.limits most_captures (Err fault) → NamesCyclePoints (length setup.board.cells) fault
names_cycle_points setup terms (Points p n) (regions, are, first) = subst (λ q. q < length setup.board.cells) (sym first.2) (lowest_on_board setup.board regions are first.0 first.1)
names_cycle_points setup terms (Positions p) (regions, are, (small, first)) =
    subst (λ q. q < length setup.board.cells) (sym first.2.0) (lowest_on_board setup.board regions are first.0 first.1)
names_cycle_points setup terms (Form p) (regions, are, (small, first)) =
    subst (λ q. q < length setup.board.cells) (sym first.2.0) (lowest_on_board setup.board regions are first.0 first.1)
names_cycle_points setup terms (Captures p) (regions, are, (small, first)) =
    subst (λ q. q < length setup.board.cells) (sym first.2.0) (lowest_on_board setup.board regions are first.0 first.1)
names_cycle_points setup terms (Memory e) b = tt

-- a fault is the answer of its status
is_refused : (setup : Setup) (terms : GameTerms) (fault : CycleError) (s : Status) (text : List ℕ) → Begun setup terms.tax terms.limits most_captures (Err fault) → HasCycleStatus fault s
    → text ≡ cycle_refusal_line terms.limits setup.board.columns fault → IsCycleRefused terms setup s text
is_refused setup terms (Points p n) s text (regions, are, r) e t = record { regions = regions; fault = Points p n; are_regions = are; refused = r; status = e; is = t }
is_refused setup terms (Positions p) s text (regions, are, r) e t = record { regions = regions; fault = Positions p; are_regions = are; refused = r; status = e; is = t }
is_refused setup terms (Form p) s text (regions, are, r) e t = record { regions = regions; fault = Form p; are_regions = are; refused = r; status = e; is = t }
is_refused setup terms (Captures p) s text (regions, are, r) e t = record { regions = regions; fault = Captures p; are_regions = are; refused = r; status = e; is = t }
is_refused setup terms (Memory m) s text b e t = absurd e

has_status : (f : CycleError) (s : Status) → HasCycleStatus f s → (s ≡ status.RegionLimit) ⊎ ((s ≡ status.FormLimit) ⊎ (s ≡ status.CaptureLimit))
has_status (Points p n) s h = inl h
has_status (Positions p) s h = inl h
has_status (Form p) s h = inr (inl h)
has_status (Captures p) s h = inr (inr h)
has_status (Memory e) s h = absurd h

question_refused : (q : CycleQuestion) (terms : GameTerms) (setup : Setup) (s : Status) (text : List ℕ) → IsCycleRefused terms setup s text → IsCycleQuestionRefused q terms setup s text
question_refused cycle.Solve terms setup s text r = r
question_refused cycle.Margin terms setup s text r = r
question_refused cycle.Moves terms setup s text r = r
question_refused cycle.Values terms setup s text r = inl r

refused_answer : (q : CycleQuestion) (terms : GameTerms) (setup : Setup) (s : Status) (text : List ℕ) → IsCycleRefused terms setup s text → IsPositionAnswer (question.WithCycles q) terms setup s text
refused_answer q terms setup s text r = go (has_status r.fault s r.status) where
  at : (t : Status) → (IsCycleQuestionRefused q terms setup t text → IsPositionAnswer (question.WithCycles q) terms setup t text) → s ≡ t → IsPositionAnswer (question.WithCycles q) terms setup s text
  at t is e = subst (λ x. IsPositionAnswer (question.WithCycles q) terms setup x text) (sym e) (is (question_refused q terms setup t text (subst (λ x. IsCycleRefused terms setup x text) e r)))

  go : (s ≡ status.RegionLimit) ⊎ ((s ≡ status.FormLimit) ⊎ (s ≡ status.CaptureLimit)) → IsPositionAnswer (question.WithCycles q) terms setup s text
  go (inl e) = at status.RegionLimit (λ x. x) e
  go (inr (inl e)) = at status.FormLimit (λ x. x) e
  go (inr (inr e)) = at status.CaptureLimit (λ x. x) e

pub cycle_fault_answer : (q : CycleQuestion) (setup : Setup) (terms : GameTerms) (fault : CycleError) (s : Status) (text : List ℕ) → Begun setup terms.tax terms.limits most_captures (Err fault) → HasCycleStatus fault s
    → text ≡ cycle_refusal_line terms.limits setup.board.columns fault → IsPositionAnswer (question.WithCycles q) terms setup s text
cycle_fault_answer q setup terms fault s text b e t = refused_answer q terms setup s text (is_refused setup terms fault s text b e t)

-- a fault is no end of a run that is done
pub cycle_fault_undone : (fault : CycleError) (s : Status) → HasCycleStatus fault s → s ≢ status.Done
cycle_fault_undone (Points p n) s h e = absurd (cc (sym h ∙ e))
cycle_fault_undone (Positions p) s h e = absurd (cc (sym h ∙ e))
cycle_fault_undone (Form p) s h e = absurd (cc (sym h ∙ e))
cycle_fault_undone (Captures p) s h e = absurd (cc (sym h ∙ e))
cycle_fault_undone (Memory m) s h e = absurd h

-- the values of a game are the answer to that question
values_are : (setup : Setup) (terms : GameTerms) (game : Solved) (s : Status) (text : List ℕ) → Begun setup terms.tax terms.limits most_captures (Ok game) → IsCycleValuesReport game s text
    → IsPositionAnswer (question.WithCycles cycle.Values) terms setup s text
values_are setup terms game status.Done text begun t = record { game = game; steady = begun; is = t }
values_are setup terms game status.FormLimit text (opening, are, steady) (p, first, t) =
    inr record { regions = game.regions; point = p; are_regions = are; steady = steady; first = first; status = refl; is = t ∙ ap (λ g. form_line g.columns p) opening.board }
values_are setup terms game status.Cycle text b t = absurd t
values_are setup terms game status.RegionLimit text b t = absurd t
values_are setup terms game status.CaptureLimit text b t = absurd t
values_are setup terms game status.Usage text b t = absurd t
values_are setup terms game status.CannotRead text b t = absurd t
values_are setup terms game status.CannotWrite text b t = absurd t
values_are setup terms game (status.BadFile f) text b t = absurd t
values_are setup terms game status.Memory text b t = absurd t
values_are setup terms game status.TooLong text b t = absurd t
values_are setup terms game status.TooManyLines text b t = absurd t
values_are setup terms game (status.BadExpression f) text b t = absurd t
values_are setup terms game status.CalcLimit text b t = absurd t

-- the report on a game is the answer to the question
game_text : (q : CycleQuestion) (setup : Setup) (terms : GameTerms) (game : Solved) (s : Status) (text : List ℕ) → Begun setup terms.tax terms.limits most_captures (Ok game)
    → IsCycleReport q setup.komi_halves game s text → IsPositionAnswer (question.WithCycles q) terms setup s text
game_text cycle.Values setup terms game s text begun report = values_are setup terms game s text begun report
game_text cycle.Solve setup terms game s text begun (done, v) = subst (λ r. IsPositionAnswer (question.WithCycles cycle.Solve) terms setup r text) (sym done) record { game = game; steady = begun; is = v }
game_text cycle.Margin setup terms game s text begun (done, v) = subst (λ r. IsPositionAnswer (question.WithCycles cycle.Margin) terms setup r text) (sym done) record { game = game; steady = begun; is = v }
game_text cycle.Moves setup terms game s text begun (done, v) = subst (λ r. IsPositionAnswer (question.WithCycles cycle.Moves) terms setup r text) (sym done) record { game = game; steady = begun; is = v }

pub cycle_game_answer : (q : CycleQuestion) (setup : Setup) (terms : GameTerms) (game : Solved) (k : ℤ) (s : Status) (text : List ℕ) → k ≡ setup.komi_halves → Begun setup terms.tax terms.limits most_captures (Ok game)
    → IsCycleReport q k game s text → IsPositionAnswer (question.WithCycles q) terms setup s text
cycle_game_answer q setup terms game k s text same begun report = game_text q setup terms game s text begun (subst (λ z. IsCycleReport q z game s text) same report)
