-- The lines of the winner and of the first winning move stand in the text of `solve`, once each.
use Rattle.std.proofs.Common.{◌≡◌, ℕ, inl, inr, refl, sym, ap, subst, ◌∙◌, Bool, true, false, List, [], ◌∷◌, ◌++◌, length, append_assoc}
use Rattle.std.specs.Prelude.{Option, Some, None, codes, sum}
use Rattle.std.proofs.lemmas.List.{append-nil}
use Rattle.std.specs.Io.KnownBytes.{append_known}
use Rattle.desk_io.specs.Desk.{Desk, Known, Outside, known}
use Rattle.go_grid.specs.declared.grid.Colour.{Colour}
use Rattle.go_grid.specs.declared.grid.Colour.TheVariants as colour
use Rattle.go_grid.specs.Region.{Region}
use Rattle.region_cut.specs.Cut.{lowest}
use Rattle.whole_rules.specs.WholeGame.{Whole}
use Rattle.whole_rules.specs.declared.money.Token.{Token}
use Rattle.whole_rules.specs.declared.money.Token.TheVariants as token
use Rattle.whole_rules.specs.declared.states.Move.{Move}
use Rattle.whole_rules.specs.declared.states.Move.TheVariants.{Half, Spend, Stone}
use Rattle.gd_words.specs.Job.{Job}
use Rattle.gd_words.specs.Task.Task.{ask}
use Rattle.cycle_report.specs.CycleSolution.{captures_line, winner_or_none}
use Rattle.report.specs.Solution.{count_line, move_line, purse_line, regions_text, solved_line, solved_lines, state_lines, token_word}
use Rattle.board_words.specs.Words.{colour_word, winner_line, word_line}
use Rattle.endgame_run.specs.Limits.{terms_of}
use Rattle.endgame_run.specs.Line.{HasOnlyLine}
use Rattle.endgame_questions.specs.Question.{IsAnswer}
use Rattle.endgame_run.specs.Run.{Runs, RunsTask, RunsWords}
use Rattle.endgame_run.specs.Solve.{AreToSolve, AskToSolve, IsPosed, WritesMove, WritesWinner}
use Rattle.endgame_questions.specs.Written.{Reports}
use Rattle.gd_words.specs.declared.job.CycleQuestion.TheVariants as cycle
use Rattle.gd_words.specs.declared.job.Question.{Question}
use Rattle.gd_words.specs.declared.job.Question.TheVariants as question
use Rattle.endgame_questions.specs.declared.status.Status.{Status}
use Rattle.endgame_questions.specs.declared.status.Status.TheVariants.{Done, Memory}
use Rattle.endgame_questions.specs.declared.status.Status.TheVariants as status
use Rattle.endgame_run.proofs.LineLaws.{Passes, name_passes, no_line_in, number_passes, passes_append, starts_line}

-- the letter begins none of the lines of a state and its regions
record IsOther (w : ℕ) : Type 0 where
  side : Passes w true (codes "side") false
  purse : Passes w true (codes "purse ") false
  half : Passes w true (codes "half") false
  regions : Passes w true (codes "regions") false
  region : Passes w true (codes "region ") false
  positions : Passes w true (codes "positions") false
  blank : Passes w false (codes " ") false
  points_word : Passes w false (codes " points ") false
  positions_word : Passes w false (codes " positions ") false
  black : Passes w false (codes "black") false
  white : Passes w false (codes "white") false
  none : Passes w false (codes "none") false
  feed : Passes w false (codes "\n") true

module _ (w : ℕ) (other : IsOther w) where
  then : (s t u : Bool) (x y : List ℕ) → Passes w s x t → Passes w t y u → Passes w s (x ++ y) u
  then s t u x y a b = passes_append w s t u x y a b

  colour_passes : (c : Colour) → Passes w false (colour_word c) false
  colour_passes colour.Black = other.black
  colour_passes colour.White = other.white

  owner_passes : (t : Token) → Passes w false (token_word t) false
  owner_passes token.Nobody = other.none
  owner_passes token.Black = other.black
  owner_passes token.White = other.white

  words_pass : (label word : List ℕ) → Passes w true label false → Passes w false word false → Passes w true (word_line label word) true
  unfolding word_line
  words_pass label word a b = then _ _ _ _ _ a (then _ _ _ _ _ other.blank (then _ _ _ _ _ b other.feed))

  purse_passes : (c : Colour) (n : ℕ) → Passes w true (purse_line c n) true
  unfolding purse_line
  purse_passes c n = then _ _ _ _ _ other.purse (then _ _ _ _ _ (colour_passes c) (then _ _ _ _ _ other.blank (then _ _ _ _ _ (number_passes w n) other.feed)))

  count_passes : (label : List ℕ) (n : ℕ) → Passes w true label false → Passes w true (count_line label n) true
  unfolding count_line
  count_passes label n a = then _ _ _ _ _ a (then _ _ _ _ _ other.blank (then _ _ _ _ _ (number_passes w n) other.feed))

  solved_passes : (columns p n m : ℕ) → Passes w true (solved_line columns p n m) true
  unfolding solved_line
  solved_passes columns p n m =
      then _ _ _ _ _ other.region (then _ _ _ _ _ (name_passes w columns p) (then _ _ _ _ _ other.points_word (then _ _ _ _ _ (number_passes w n)
      (then _ _ _ _ _ other.positions_word (then _ _ _ _ _ (number_passes w m) other.feed)))))

  all_pass : (columns : ℕ) (regions : List Region) (numbers : List ℕ) → Passes w true (solved_lines columns regions numbers) true
  all_pass columns (r ∷ regions) (n ∷ numbers) = then _ _ _ _ _ (solved_passes columns (lowest r) (length r.points) n) (all_pass columns regions numbers)
  all_pass columns [] numbers = record { calm_so = refl; ends_so = refl }
  all_pass columns (r ∷ regions) [] = record { calm_so = refl; ends_so = refl }

  front_passes : (s : Whole) (regions : List Region) (numbers : List ℕ) → Passes w true (state_lines s ++ regions_text s.board.columns regions numbers) true
  front_passes s regions numbers = then _ _ _ _ _
      (then _ _ _ _ _ (words_pass _ _ other.side (colour_passes s.side)) (then _ _ _ _ _ (purse_passes colour.Black s.purses.black)
      (then _ _ _ _ _ (purse_passes colour.White s.purses.white) (words_pass _ _ other.half (owner_passes s.purses.token)))))
      (then _ _ _ _ _ (count_passes _ (length regions) other.regions) (then _ _ _ _ _ (all_pass s.board.columns regions numbers) (count_passes _ (sum numbers) other.positions)))

-- neither a `w` nor an `m` begins one of them
w_other : IsOther 119
w_other = record {
  side = record { calm_so = refl; ends_so = refl };
  purse = record { calm_so = refl; ends_so = refl };
  half = record { calm_so = refl; ends_so = refl };
  regions = record { calm_so = refl; ends_so = refl };
  region = record { calm_so = refl; ends_so = refl };
  positions = record { calm_so = refl; ends_so = refl };
  blank = record { calm_so = refl; ends_so = refl };
  points_word = record { calm_so = refl; ends_so = refl };
  positions_word = record { calm_so = refl; ends_so = refl };
  black = record { calm_so = refl; ends_so = refl };
  white = record { calm_so = refl; ends_so = refl };
  none = record { calm_so = refl; ends_so = refl };
  feed = record { calm_so = refl; ends_so = refl };
}

m_other : IsOther 109
m_other = record {
  side = record { calm_so = refl; ends_so = refl };
  purse = record { calm_so = refl; ends_so = refl };
  half = record { calm_so = refl; ends_so = refl };
  regions = record { calm_so = refl; ends_so = refl };
  region = record { calm_so = refl; ends_so = refl };
  positions = record { calm_so = refl; ends_so = refl };
  blank = record { calm_so = refl; ends_so = refl };
  points_word = record { calm_so = refl; ends_so = refl };
  positions_word = record { calm_so = refl; ends_so = refl };
  black = record { calm_so = refl; ends_so = refl };
  white = record { calm_so = refl; ends_so = refl };
  none = record { calm_so = refl; ends_so = refl };
  feed = record { calm_so = refl; ends_so = refl };
}

winner_passes : (c : Colour) → Passes 109 true (winner_line c) true
unfolding word_line
winner_passes colour.Black = record { calm_so = refl; ends_so = refl }
winner_passes colour.White = record { calm_so = refl; ends_so = refl }

word_passes : (columns : ℕ) (move : Option Move) → (t : List ℕ) × Passes 119 false t false × (move_line columns move ≡ word_line (codes "move") t)
word_passes columns None = (codes "none", record { calm_so = refl; ends_so = refl }, refl)
word_passes columns (Some (Stone p)) = (_, name_passes 119 columns p, refl)
word_passes columns (Some Spend) = (codes "spend", record { calm_so = refl; ends_so = refl }, refl)
word_passes columns (Some Half) = (codes "half", record { calm_so = refl; ends_so = refl }, refl)

move_passes : (columns : ℕ) (move : Option Move) → Passes 119 true (move_line columns move) true
move_passes columns move =
    let h = word_passes columns move in
    subst (λ l. Passes 119 true l true) (sym h.2) (words_pass 119 w_other (codes "move") h.0 (record { calm_so = refl; ends_so = refl }) h.1)

told_passes : (winner : Option Colour) → Passes 109 true (winner_or_none winner) true
unfolding word_line
told_passes (Some c) = winner_passes c
told_passes None = record { calm_so = refl; ends_so = refl }

captures_pass : (w : ℕ) → IsOther w → Passes w true (codes "captures") false → (n : Option ℕ) → Passes w true (captures_line n) true
captures_pass w other label (Some n) = count_passes w other (codes "captures") n label
captures_pass w other label None = words_pass w other (codes "captures") (codes "none") label other.none

module _ (s : Whole) (regions : List Region) (numbers : List ℕ) where
  abbrev Regions : List ℕ
  Regions = regions_text s.board.columns regions numbers

  abbrev Front : List ℕ
  Front = state_lines s ++ Regions

  winner_only : (line rest : List ℕ) → Passes 119 true rest true → HasOnlyLine (codes "winner ") line (state_lines s ++ (Regions ++ (line ++ rest)))
  winner_only line rest h = let p = front_passes 119 w_other s regions numbers in record {
    front = Front;
    back = rest;
    stands = sym (append_assoc (state_lines s) Regions (line ++ rest));
    start = starts_line 119 Front p;
    none_before = no_line_in 119 (codes "inner ") Front true p;
    none_behind = no_line_in 119 (codes "inner ") rest true h;
  }

  pieces : (a b c d : List ℕ) → a ++ (b ++ (c ++ d)) ≡ ((a ++ b) ++ c) ++ (d ++ [])
  pieces a b c d = simp (append_assoc, append-nil)

  move_only : (between line : List ℕ) → Passes 109 true between true → HasOnlyLine (codes "move ") line (state_lines s ++ (Regions ++ (between ++ line)))
  move_only between line h = let p = passes_append 109 true true true Front between (front_passes 109 m_other s regions numbers) h in record {
    front = Front ++ between;
    back = [];
    stands = pieces (state_lines s) Regions between line;
    start = starts_line 109 (Front ++ between) p;
    none_before = no_line_in 109 (codes "ove ") (Front ++ between) true p;
    none_behind = no_line_in 109 (codes "ove ") [] true (record { calm_so = refl; ends_so = refl });
  }

  -- the same behind two lines
  move_behind : (winner captures line : List ℕ) → Passes 109 true winner true → Passes 109 true captures true
      → HasOnlyLine (codes "move ") line (state_lines s ++ (Regions ++ (winner ++ (captures ++ line))))
  move_behind winner captures line h k =
      subst (λ t. HasOnlyLine (codes "move ") line (state_lines s ++ (Regions ++ t))) (append_assoc winner captures line)
      (move_only (winner ++ captures) line (passes_append 109 true true true winner captures h k))

-- the answer that is written to words that ask who wins a file
module _ (words : List (List ℕ)) (job : Job) (word : List ℕ) (a b : Known) where
  -- what is said of the winner and of the move
  abbrev Says : Type 0
  Says = WritesWinner words a b × WritesMove words a b

  both : (q : Question) → AreToSolve words job q word → (text : List ℕ) → IsAnswer q (terms_of job) job.settings word a.input b.input Done text → b.holds ≡ append_known a.holds text → Says
  both question.Solve asks text (file, told, short, (setup, reads, v)) e =
      let posed : IsPosed words question.Solve a.input setup v.state = record { job = job; word = word; file = file; asks = asks; told = told; short = short; reads = reads; opening = v.solution.opening } in
      let written = e ∙ ap (append_known a.holds) v.is in (
        (
          question.Solve,
          setup,
          v.state,
          Some v.winner,
          posed,
          v.solution.wins,
          (_, winner_only v.state v.regions v.numbers (winner_line v.winner) (move_line v.state.board.columns v.move) (move_passes v.state.board.columns v.move), written),
        ),
        (
          question.Solve,
          setup,
          v.state,
          v.move,
          posed,
          v.solution.first,
          (_, move_only v.state v.regions v.numbers (winner_line v.winner) (move_line v.state.board.columns v.move) (winner_passes v.winner), written),
        ),
      )
  both (question.WithCycles cycle.Solve) asks text (file, told, short, (setup, reads, v)) e =
      let s = v.game.state in
      let posed : IsPosed words (question.WithCycles cycle.Solve) a.input setup s = record { job = job; word = word; file = file; asks = asks; told = told; short = short; reads = reads; opening = v.steady.0 } in
      let written = e ∙ ap (append_known a.holds) v.is.is in
      let captures = captures_line v.is.captures in
      let move = move_line s.board.columns v.is.move in (
        (
          question.WithCycles cycle.Solve,
          setup,
          s,
          v.is.winner,
          posed,
          v.is.wins,
          (
            _,
            winner_only s v.game.regions v.is.numbers (winner_or_none v.is.winner) (captures ++ move)
                (passes_append 119 true true true captures move (captures_pass 119 w_other (record { calm_so = refl; ends_so = refl }) v.is.captures) (move_passes s.board.columns v.is.move)),
            written,
          ),
        ),
        (
          question.WithCycles cycle.Solve,
          setup,
          s,
          v.is.move,
          posed,
          v.is.first,
          (_, move_behind s v.game.regions v.is.numbers (winner_or_none v.is.winner) captures move (told_passes v.is.winner) (captures_pass 109 m_other (record { calm_so = refl; ends_so = refl }) v.is.captures), written),
        ),
      )
  both q asks text h e = absurd asks.winner

  reported : (q : Question) → AreToSolve words job q word → Reports (IsAnswer q (terms_of job) job.settings word a.input b.input) a.writes b.writes a.holds b.holds Done → Says
  reported q asks (inl m) = absurd (let k : Path Status Done Memory = m.0 in cc)
  reported q asks (inr (s, text, d, inr f)) = absurd (let k : Path Status Done status.CannotWrite = f.0 in cc)
  reported q asks (inr (s, text, d, inl f)) = both q asks text (subst (λ r. IsAnswer q (terms_of job) job.settings word a.input b.input r text) (sym f.0) d) f.1

pub writes_both : {H S K : Type 0} (o : Outside H S K) (words : List (List ℕ)) (a b : Desk H S K) (status : Status) → RunsWords o words a status b → status ≡ Done → AskToSolve words
    → WritesWinner words (known o a) (known o b) × WritesMove words (known o a) (known o b)
writes_both o words a b status (inl (none, refused)) done (job, q, word, asks) = absurd (none job asks.only.said)
writes_both o words a b status (inr (job, only, r)) done (other, q, word, asks) =
    let task : job.task ≡ ask q word = sym (ap (λ j. j.task) (only.only other asks.only.said)) ∙ asks.asks in
    let h : RunsTask o (ask q word) job a Done b = subst (λ t. RunsTask o t job a Done b) task (subst (λ s. Runs o job a s b) done r) in
    let own : AreToSolve words job q word = record { only = only; winner = asks.winner; asks = task } in
    reported words job word (known o a) (known o b) q own h.written
