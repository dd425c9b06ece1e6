-- The text of `trial`.
use Rattle.std.proofs.Common.{◌≡◌, ◌∙◌, ◌++◌, ◌+◌, ◌<◌, ℕ, List, [], ◌∷◌, length, sum, take, ap, sym, subst, codes, append_assoc}
use Rattle.std.proofs.lemmas.List.{take_more}
use Rattle.go_grid.specs.Region.{Region}
use Rattle.endgame_solver.specs.Regions.{no_region, region_at}
use Rattle.endgame_solver.specs.Solved.{Solved, IsNumberOfPositions, IsNumberOfShapes}
use Rattle.report.specs.Solution.{count_line, move_line}
use Rattle.report.specs.inner.Solution.{HasOutcome}
use Rattle.board_words.specs.Words.{winner_line}
use Rattle.report.specs.Trial.{IsTrialText, counts_text}
use Rattle.report.specs.inner.Trial.{AreTogether, HasCounts}
use Rattle.report.proofs.SolutionLaws.{numbers_more, sum_more}
use Rattle.report.proofs.TextLaws.{three_more}

-- one region more
pub together_more : (rs : List Region) (i total n : ℕ) → AreTogether (take i rs) total → i < length rs → IsNumberOfPositions (region_at rs i) n
    → AreTogether (take (i + 1) rs) (total + n)
together_more rs i total n (numbers, counted, whole) lt number =
    let r = region_at rs i in
    subst (λ xs. AreTogether xs (total + n)) (sym (take_more rs i no_region lt))
    (numbers ++ n ∷ [], numbers_more (take i rs) numbers r n counted number, ap (λ t. t + n) whole ∙ sum_more numbers n)

-- the counts, line by line
pub counts_are : (number : ℕ) (rs : List Region) (a b c d e : List ℕ) (total shapes : ℕ) → AreTogether rs total → IsNumberOfShapes rs shapes
    → b ≡ a ++ count_line (codes "trial") number → c ≡ b ++ count_line (codes "regions") (length rs) → d ≡ c ++ count_line (codes "positions") total
    → e ≡ d ++ count_line (codes "shapes") shapes → HasCounts number rs a e
counts_are number rs a b c d e total shapes (numbers, counted, whole) are first second third last = record {
  numbers = numbers;
  shapes = shapes;
  counted = counted;
  of_shapes = are;
  text =
      three_more b c d e (count_line (codes "regions") (length rs)) (count_line (codes "positions") (sum numbers)) (count_line (codes "shapes") shapes)
      second (third ∙ ap (λ n. c ++ count_line (codes "positions") n) whole) last
      ∙ ap (λ t. t ++ (count_line (codes "regions") (length rs) ++ (count_line (codes "positions") (sum numbers) ++ count_line (codes "shapes") shapes))) first
      ∙ append_assoc a (count_line (codes "trial") number)
      (count_line (codes "regions") (length rs) ++ (count_line (codes "positions") (sum numbers) ++ count_line (codes "shapes") shapes));
}

-- the text, piece by piece
pub trial_is : (number : ℕ) (game : Solved) (a b c d : List ℕ) → a ≡ [] → HasCounts number game.regions a b → HasOutcome game.state b c → d ≡ c
    → IsTrialText number game d
trial_is number game a b c d empty counts outcome same =
    let head = counts_text number game.regions counts.numbers counts.shapes in
    let tail = winner_line outcome.winner ++ move_line game.state.board.columns outcome.move in record {
      numbers = counts.numbers;
      shapes = counts.shapes;
      winner = outcome.winner;
      move = outcome.move;
      counted = counts.counted;
      of_shapes = counts.of_shapes;
      wins = outcome.wins;
      first = outcome.first;
      is = same ∙ outcome.text ∙ ap (λ t. t ++ tail) (counts.text ∙ ap (λ t. t ++ head) empty);
    }
