use Rattle.std.proofs.Common.{◌≢◌}
use Rattle.board_orders.specs.declared.command.AnalysisCommand.TheVariants as analysis
use Rattle.board_orders.specs.Orders.{analysis_word}
use Rattle.board_orders.proofs.command.read_analysis.Goals as goal

pub returns-in-top_moves_black-clause-some : goal.returns-in-top_moves_black-clause-some
returns-in-top_moves_black-clause-some c = c.in-top_moves_black.is

pub returns-in-top_moves_black-clause-none : goal.returns-in-top_moves_black-clause-none
returns-in-top_moves_black-clause-none c = tt

pub returns-in-top_moves_white-clause-some : goal.returns-in-top_moves_white-clause-some
returns-in-top_moves_white-clause-some c = c.in-top_moves_white.is

pub returns-in-top_moves_white-clause-none : goal.returns-in-top_moves_white-clause-none
returns-in-top_moves_white-clause-none c = tt

pub returns-in-final_score-clause-some : goal.returns-in-final_score-clause-some
returns-in-final_score-clause-some c = c.in-final_score.is

pub returns-in-final_score-clause-none : goal.returns-in-final_score-clause-none
returns-in-final_score-clause-none c = tt

pub returns-in-estimate_score-clause-some : goal.returns-in-estimate_score-clause-some
returns-in-estimate_score-clause-some c = c.in-estimate_score.is

pub returns-in-estimate_score-clause-none : goal.returns-in-estimate_score-clause-none
returns-in-estimate_score-clause-none c = tt

pub returns-in-final_status_list-clause-some : goal.returns-in-final_status_list-clause-some
returns-in-final_status_list-clause-some c = c.in-final_status_list.is

pub returns-in-final_status_list-clause-none : goal.returns-in-final_status_list-clause-none
returns-in-final_status_list-clause-none c = tt

pub returns-in-text-clause-some : goal.returns-in-text-clause-some
returns-in-text-clause-some c = c.in-text.is

pub returns-in-text-clause-none : goal.returns-in-text-clause-none
returns-in-text-clause-none c = tt

pub returns-in-text-2-clause-some : goal.returns-in-text-2-clause-some
returns-in-text-2-clause-some c = c.in-text-2.is

pub returns-in-text-2-clause-none : goal.returns-in-text-2-clause-none
returns-in-text-2-clause-none c = tt

pub returns-in-text-3-clause-some : goal.returns-in-text-3-clause-some
returns-in-text-3-clause-some c = c.in-text-3.is

pub returns-in-text-3-clause-none : goal.returns-in-text-3-clause-none
returns-in-text-3-clause-none c = tt

pub returns-in-text-4-clause-some : goal.returns-in-text-4-clause-some
returns-in-text-4-clause-some c = c.in-text-4.is

pub returns-in-text-4-clause-none : goal.returns-in-text-4-clause-none
returns-in-text-4-clause-none c = tt

pub returns-in_default-clause-some : goal.returns-in_default-clause-some
returns-in_default-clause-some c = tt

pub returns-in_default-clause-none : goal.returns-in_default-clause-none
returns-in_default-clause-none c command = elim command as (λ k. c.args.word.now ≢ analysis_word k) [
  | analysis.TopMovesBlack ↦ c.in_default.not-top_moves_black
  | analysis.TopMovesWhite ↦ c.in_default.not-top_moves_white
  | analysis.FinalScore ↦ c.in_default.not-final_score
  | analysis.EstimateScore ↦ c.in_default.not-estimate_score
  | analysis.FinalStatusList ↦ c.in_default.not-final_status_list
  | analysis.Margin ↦ c.in_default.not-text
  | analysis.Moves ↦ c.in_default.not-text-2
  | analysis.Line ↦ c.in_default.not-text-3
  | analysis.AnalyzeCommands ↦ c.in_default.not-text-4
]
