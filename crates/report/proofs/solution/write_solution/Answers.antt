use Rattle.std.proofs.Common.{◌≡◌, ◌∙◌, suc, refl, inl, inr, ap, string_bytes, subst, ◌++◌, Option, Some, None, MatchOption}
use Rattle.go_grid.specs.declared.grid.Colour.{Colour}
use Rattle.go_grid.specs.Board.{other}
use Rattle.report.specs.Solution.{move_line}
use Rattle.board_words.specs.Words.{winner_line}
use Rattle.whole_rules.specs.declared.states.Move.{Move}
use Rattle.whole_rules.specs.FirstWinningMove.{IsFirstWinning, IsWinner}
use Rattle.whole_rules.specs.PlainRecursion.{MoverLoses}
use Rattle.whole_rules.specs.WholeGame.{Whole, Leads}
use Rattle.report.proofs.solution.write_solution.Goals as goal

-- the side to move wins where it has a winning move, and the other where it has none
wins_with : (s : Whole) (winner : Colour) (m : Option Move) → MatchOption m (winner ≡ other s.side) (λ m. winner ≡ s.side)
    → (m ≡ None → MoverLoses Whole Leads s) → IsFirstWinning s m → IsWinner s winner
wins_with s winner None is loses first = inr (is, loses refl)
wins_with s winner (Some m) is loses ((t, move, lost), least) = inl (is, (suc lost.0, (t, (m, move), lost.1)))

pub returns-clause-outcome : goal.returns-clause-outcome
returns-clause-outcome c =
    let columns = c.size-size.ensures.columns ∙ ap (λ g. g.columns) (c.board.ensures ∙ ap (λ s. s.board) c.whole.ensures) in
    let chosen = c.winning_move-chosen.result in
    let side = c.side-side.ensures ∙ ap (λ s. s.side) c.whole-2.ensures in
    record {
      winner = c.winner_with-winner.result;
      move = chosen;
      wins = wins_with c.args.solved.now.state c.winner_with-winner.result chosen
          (subst (λ d. MatchOption chosen (c.winner_with-winner.result ≡ other d) (λ m. c.winner_with-winner.result ≡ d)) side c.winner_with-winner.ensures)
          c.winning_move-chosen.ensures.none.0 c.winning_move-chosen.ensures.first;
      first = c.winning_move-chosen.ensures.first;
      text = c.in_ok-write_outcome.ensures ∙ ap (λ n. string_bytes c.args.text.now ++ (winner_line c.winner_with-winner.result ++ move_line n chosen)) columns;
    }
