-- What a position that isn't solved comes to.
use Rattle.std.proofs.Common.{◌≡◌, ℤ, ℕ, inr, refl, List, sym, subst, ap, ◌∙◌, Ok, Err}
use Rattle.go_play.specs.Setup.{Setup}
use Rattle.endgame_questions.specs.declared.terms.GameTerms.{GameTerms}
use Rattle.endgame_solver.specs.declared.faults.SolveError.{SolveError}
use Rattle.endgame_solver.specs.declared.faults.SolveError.TheVariants.{Points, Positions, Cycle, Form, Memory}
use Rattle.endgame_solver.specs.Solved.{Begun, Solved}
use Rattle.report.specs.Values.{IsValuesText}
use Rattle.endgame_questions.specs.declared.status.Status.{Status}
use Rattle.endgame_questions.specs.declared.status.Status.TheVariants as status
use Rattle.gd_words.specs.Task.{NeedsRegions, TakesNoCycles}
use Rattle.gd_words.specs.declared.job.Question.{Question}
use Rattle.gd_words.specs.declared.job.Question.TheVariants as question
use Rattle.endgame_questions.specs.Refusal.{HasStatus, IsRefused, form_line, refusal_line}
use Rattle.endgame_questions.specs.inner.Reports.{IsGameReport, IsValuesReport}
use Rattle.endgame_questions.specs.Question.{IsPositionAnswer}
use Rattle.endgame_questions.proofs.AnswerLaws.{refused_answer}

-- a fault is the answer of its status
pub is_refused : (setup : Setup) (terms : GameTerms) (fault : SolveError) (s : Status) (text : List ℕ) → Begun setup terms.tax terms.limits (Err fault) → HasStatus fault s
    → text ≡ refusal_line terms.limits setup.board.columns fault → IsRefused terms setup s text
is_refused setup terms (Points p n) s text (regions, are, r) e t = record { regions = regions; fault = Points p n; are_regions = are; refused = r; status = e; is = t }
is_refused setup terms (Positions p) s text (regions, are, r) e t = record { regions = regions; fault = Positions p; are_regions = are; refused = r; status = e; is = t }
is_refused setup terms (Cycle p names back) s text (regions, are, r) e t =
    record { regions = regions; fault = Cycle p names back; are_regions = are; refused = r; status = e; is = t }
is_refused setup terms (Form p) s text (regions, are, r) e t = record { regions = regions; fault = Form p; are_regions = are; refused = r; status = e; is = t }
is_refused setup terms (Memory m) s text b e t = absurd e

-- the values of a solved game are the answer to that question
values_are : (setup : Setup) (terms : GameTerms) (game : Solved) (s : Status) (text : List ℕ) → Begun setup terms.tax terms.limits (Ok game) → IsValuesReport game s text
    → IsPositionAnswer question.Values terms setup s text
values_are setup terms game status.Done text (opening, are, sound) t =
    record { regions = game.regions; are_regions = are; sound = sound; is = subst (λ g. IsValuesText g.columns game.regions text) opening.board t }
values_are setup terms game status.FormLimit text (opening, are, sound) (p, first, t) =
    inr record { regions = game.regions; point = p; are_regions = are; sound = sound; first = first; status = refl; is = t ∙ ap (λ g. form_line g.columns p) opening.board }
values_are setup terms game status.Cycle text b t = absurd t
values_are setup terms game status.RegionLimit text b t = absurd t
values_are setup terms game status.Usage text b t = absurd t
values_are setup terms game status.CannotRead text b t = absurd t
values_are setup terms game status.CannotWrite text b t = absurd t
values_are setup terms game (status.BadFile f) text b t = absurd t
values_are setup terms game status.Memory text b t = absurd t
values_are setup terms game status.TooLong text b t = absurd t
values_are setup terms game status.TooManyLines text b t = absurd t
values_are setup terms game (status.BadExpression f) text b t = absurd t
values_are setup terms game status.CalcLimit text b t = absurd t
values_are setup terms game status.CaptureLimit text b t = absurd t

-- the text of a solved game is the text that answers the question
game_text : (q : Question) (setup : Setup) (terms : GameTerms) (game : Solved) (s : Status) (text : List ℕ) → TakesNoCycles q → NeedsRegions q → Begun setup terms.tax terms.limits (Ok game)
    → IsGameReport q setup.komi_halves game s text → IsPositionAnswer q terms setup s text
game_text question.Solve setup terms game s text plain needs (opening, are, sound) (done, v) =
    subst (λ r. IsPositionAnswer question.Solve terms setup r text) (sym done) record {
      regions = game.regions;
      numbers = v.numbers;
      state = game.state;
      winner = v.winner;
      move = v.move;
      are_regions = are;
      sound = sound;
      counted = v.counted;
      solution = record { opening = opening; wins = v.wins; first = v.first };
      is = v.is;
    }
game_text question.Margin setup terms game s text plain needs (opening, are, sound) (done, v) =
    subst (λ r. IsPositionAnswer question.Margin terms setup r text) (sym done) record { regions = game.regions; state = game.state; are_regions = are; sound = sound; opening = opening; is = v }
game_text question.Moves setup terms game s text plain needs (opening, are, sound) (done, v) =
    subst (λ r. IsPositionAnswer question.Moves terms setup r text) (sym done) record { regions = game.regions; state = game.state; are_regions = are; sound = sound; opening = opening; is = v }
game_text question.Line setup terms game s text plain needs (opening, are, sound) (done, v) =
    subst (λ r. IsPositionAnswer question.Line terms setup r text) (sym done) record { regions = game.regions; state = game.state; are_regions = are; sound = sound; opening = opening; is = v }
game_text question.Values setup terms game s text plain needs begun report = values_are setup terms game s text begun report
game_text question.Safe setup terms game s text plain needs begun report = absurd needs
game_text question.Board setup terms game s text plain needs begun report = absurd needs
game_text (question.WithCycles asked) setup terms game s text plain needs begun report = absurd plain

pub game_answer : (q : Question) (setup : Setup) (terms : GameTerms) (game : Solved) (k : ℤ) (s : Status) (text : List ℕ) → TakesNoCycles q → NeedsRegions q → k ≡ setup.komi_halves → Begun setup terms.tax terms.limits (Ok game)
    → IsGameReport q k game s text → IsPositionAnswer q terms setup s text
game_answer q setup terms game k s text plain needs same begun report = game_text q setup terms game s text plain needs begun (subst (λ z. IsGameReport q z game s text) same report)

-- a fault is the answer to a question that needs regions
pub fault_answer : (q : Question) (setup : Setup) (terms : GameTerms) (fault : SolveError) (s : Status) (text : List ℕ) → TakesNoCycles q → NeedsRegions q → Begun setup terms.tax terms.limits (Err fault) → HasStatus fault s
    → text ≡ refusal_line terms.limits setup.board.columns fault → IsPositionAnswer q terms setup s text
fault_answer q setup terms fault s text plain needs b e t = (refused_answer q terms setup s text plain needs (is_refused setup terms fault s text b e t)).0
