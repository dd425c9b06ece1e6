-- What stands of a solved game with cycles.
use Rattle.std.proofs.Common.{◌≡◌, ℕ, ◌++◌, [], List, ◌∙◌}
use Rattle.endgame_solver.specs.Solved.{Solved}
use Rattle.report.specs.Solution.{HasRegions, regions_text, state_lines}
use Rattle.report.proofs.TextLaws.{three_pieces}
use Rattle.cycle_report.specs.CycleSolution.{IsCycleSolveText, cycle_outcome_text}
use Rattle.cycle_report.specs.inner.CycleSolution.{HasCycleOutcome}

-- the text of a solved game with cycles, piece by piece
pub cycle_text_is : (game : Solved) (a b c d e : List ℕ) → a ≡ [] → b ≡ a ++ state_lines game.state
    → HasRegions game.state.board.columns game.regions b c → HasCycleOutcome game c d → e ≡ d → IsCycleSolveText game e
cycle_text_is game a b c d e empty state regions outcome same = record {
  numbers = regions.numbers;
  winner = outcome.winner;
  captures = outcome.captures;
  move = outcome.move;
  counted = regions.counted;
  wins = outcome.wins;
  least = outcome.least;
  first = outcome.first;
  is = same ∙ three_pieces a b c d (state_lines game.state) (regions_text game.state.board.columns game.regions regions.numbers)
      (cycle_outcome_text game.state.board.columns outcome.winner outcome.captures outcome.move) empty state regions.text outcome.text;
}
