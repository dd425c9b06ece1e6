-- The lines of regions, and what stands of a solved game.
use Rattle.std.proofs.Common.{◌≡◌, ℕ, ◌+◌, ◌<◌, ◌++◌, ◌∷◌, [], List, length, take, ap, sym, subst, ◌∙◌, arith, append_assoc}
use Rattle.std.specs.Prelude.{sum, codes}
use Rattle.std.proofs.lemmas.List.{append-nil, take_more}
use Rattle.std.proofs.lemmas.List.Sums.{sum_by-append}
use Rattle.go_grid.specs.Region.{Region}
use Rattle.region_cut.specs.Cut.{lowest}
use Rattle.endgame_solver.specs.Regions.{region_at, no_region}
use Rattle.endgame_solver.specs.Solved.{Solved, IsNumberOfPositions}
use Rattle.report.specs.Solution.{AreNumbersOfPositions, HasLines, HasRegions, IsSolveText, count_line, move_line, solved_lines, regions_text, solved_line, state_lines}
use Rattle.report.specs.inner.Solution.{HasOutcome}
use Rattle.board_words.specs.Words.{winner_line}
use Rattle.report.proofs.TextLaws.{three_more, three_pieces}

pub numbers_more : (rs : List Region) (ns : List ℕ) (r : Region) (n : ℕ) → AreNumbersOfPositions rs ns → IsNumberOfPositions r n → AreNumbersOfPositions (rs ++ r ∷ []) (ns ++ n ∷ [])
numbers_more [] [] r n h k = (k, tt)
numbers_more [] (m ∷ ns) r n h k = absurd h
numbers_more (q ∷ rs) [] r n h k = absurd h
numbers_more (q ∷ rs) (m ∷ ns) r n h k = (h.0, numbers_more rs ns r n h.1 k)

pub lines_more : (c : ℕ) (rs : List Region) (ns : List ℕ) (r : Region) (n : ℕ) → AreNumbersOfPositions rs ns
    → solved_lines c (rs ++ r ∷ []) (ns ++ n ∷ []) ≡ solved_lines c rs ns ++ solved_line c (lowest r) (length r.points) n
lines_more c [] [] r n h = append-nil (solved_line c (lowest r) (length r.points) n)
lines_more c [] (m ∷ ns) r n h = absurd h
lines_more c (q ∷ rs) [] r n h = absurd h
lines_more c (q ∷ rs) (m ∷ ns) r n h =
    ap (λ t. solved_line c (lowest q) (length q.points) m ++ t) (lines_more c rs ns r n h.1)
    ∙ sym (append_assoc (solved_line c (lowest q) (length q.points) m) (solved_lines c rs ns) (solved_line c (lowest r) (length r.points) n))

pub sum_more : (ns : List ℕ) (n : ℕ) → sum ns + n ≡ sum (ns ++ n ∷ [])
sum_more ns n = let e = sum_by-append (λ x. x) ns (n ∷ []) in omega (arith, e)

-- one region more
pub lines_step : (c : ℕ) (rs : List Region) (i : ℕ) (before now after : List ℕ) (total n p points : ℕ) → HasLines c (take i rs) before now total → i < length rs
    → IsNumberOfPositions (region_at rs i) n → p ≡ lowest (region_at rs i) → points ≡ length (region_at rs i).points → after ≡ now ++ solved_line c p points n
    → HasLines c (take (i + 1) rs) before after (total + n)
lines_step c rs i before now after total n p points h lt number low many text =
    let r = region_at rs i in
    let more : HasLines c (take i rs ++ r ∷ []) before after (total + n) = record {
      numbers = h.numbers ++ n ∷ [];
      counted = numbers_more (take i rs) h.numbers r n h.counted number;
      lines =
          text ∙ ap (λ q. now ++ solved_line c q points n) low ∙ ap (λ q. now ++ solved_line c (lowest r) q n) many ∙ ap (λ t. t ++ solved_line c (lowest r) (length r.points) n) h.lines
          ∙ append_assoc before (solved_lines c (take i rs) h.numbers) (solved_line c (lowest r) (length r.points) n)
          ∙ ap (λ t. before ++ t) (sym (lines_more c (take i rs) h.numbers r n h.counted));
      whole = ap (λ t. t + n) h.whole ∙ sum_more h.numbers n;
    } in
    subst (λ xs. HasLines c xs before after (total + n)) (sym (take_more rs i no_region lt)) more

-- the text of the regions, piece by piece
pub regions_is : (c : ℕ) (rs : List Region) (a b d e : List ℕ) (total : ℕ) → b ≡ a ++ count_line (codes "regions") (length rs) → HasLines c rs b d total
    → e ≡ d ++ count_line (codes "positions") total → HasRegions c rs a e
regions_is c rs a b d e total first lines last = record {
  numbers = lines.numbers;
  counted = lines.counted;
  text = three_more a b d e (count_line (codes "regions") (length rs)) (solved_lines c rs lines.numbers) (count_line (codes "positions") (sum lines.numbers))
      first lines.lines (last ∙ ap (λ n. d ++ count_line (codes "positions") n) lines.whole);
}

-- the text of a solved game, piece by piece
pub text_is : (game : Solved) (a b c d e : List ℕ) → a ≡ [] → b ≡ a ++ state_lines game.state → HasRegions game.state.board.columns game.regions b c → HasOutcome game.state c d → e ≡ d → IsSolveText game e
text_is game a b c d e empty state regions outcome same = record {
  numbers = regions.numbers;
  winner = outcome.winner;
  move = outcome.move;
  counted = regions.counted;
  wins = outcome.wins;
  first = outcome.first;
  is = same ∙ three_pieces a b c d (state_lines game.state) (regions_text game.state.board.columns game.regions regions.numbers)
      (winner_line outcome.winner ++ move_line game.state.board.columns outcome.move) empty state regions.text outcome.text;
}
