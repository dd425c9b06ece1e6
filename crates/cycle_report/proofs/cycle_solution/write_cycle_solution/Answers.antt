use Rattle.std.proofs.Common.{◌∙◌, ap, subst, string_bytes, ◌++◌}
use Rattle.whole_rules.specs.FirstWinningMove.{IsFirstWinning}
use Rattle.cycle_solver.specs.Winner.{TellsCaptures}
use Rattle.cycle_report.specs.CycleSolution.{cycle_outcome_text}
use Rattle.cycle_report.proofs.cycle_solution.write_cycle_solution.Goals as goal

pub returns-clause-outcome : goal.returns-clause-outcome
returns-clause-outcome c =
    let columns = c.size-size.ensures.columns ∙ ap (λ g. g.columns) (c.board.ensures ∙ ap (λ s. s.board) c.whole.ensures) in
    record {
      winner = c.winner-winner.result;
      captures = c.captures-captures.result;
      move = c.winning_move-chosen.result;
      wins = c.winner-winner.ensures.winner;
      least = subst (λ v. TellsCaptures v.regions v.state c.captures-captures.result) c.winner-winner.ensures.same c.captures-captures.ensures.captures;
      first = subst (λ v. IsFirstWinning v.state c.winning_move-chosen.result) (c.captures-captures.ensures.same ∙ c.winner-winner.ensures.same)
          c.winning_move-chosen.ensures.first;
      text = c.in_ok-write_cycle_outcome.ensures
          ∙ ap (λ n. string_bytes c.args.text.now ++ cycle_outcome_text n c.winner-winner.result c.captures-captures.result c.winning_move-chosen.result) columns;
    }
