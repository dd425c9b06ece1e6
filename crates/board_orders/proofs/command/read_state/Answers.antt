use Rattle.board_orders.proofs.command.read_state.Goals as goal

pub returns-in-showboard-clause-some : goal.returns-in-showboard-clause-some
returns-in-showboard-clause-some c = c.in-showboard.is

pub returns-in-showboard-clause-none : goal.returns-in-showboard-clause-none
returns-in-showboard-clause-none c = tt

pub returns-in-list_stones-clause-some : goal.returns-in-list_stones-clause-some
returns-in-list_stones-clause-some c = c.in-list_stones.is

pub returns-in-list_stones-clause-none : goal.returns-in-list_stones-clause-none
returns-in-list_stones-clause-none c = tt

pub returns-in-captures-clause-some : goal.returns-in-captures-clause-some
returns-in-captures-clause-some c = c.in-captures.is

pub returns-in-captures-clause-none : goal.returns-in-captures-clause-none
returns-in-captures-clause-none c = tt

pub returns-in-move_history-clause-some : goal.returns-in-move_history-clause-some
returns-in-move_history-clause-some c = c.in-move_history.is

pub returns-in-move_history-clause-none : goal.returns-in-move_history-clause-none
returns-in-move_history-clause-none c = tt

pub returns-in-query_boardsize-clause-some : goal.returns-in-query_boardsize-clause-some
returns-in-query_boardsize-clause-some c = c.in-query_boardsize.is

pub returns-in-query_boardsize-clause-none : goal.returns-in-query_boardsize-clause-none
returns-in-query_boardsize-clause-none c = tt

pub returns-in-get_komi-clause-some : goal.returns-in-get_komi-clause-some
returns-in-get_komi-clause-some c = c.in-get_komi.is

pub returns-in-get_komi-clause-none : goal.returns-in-get_komi-clause-none
returns-in-get_komi-clause-none c = tt

pub returns-in-get_handicap-clause-some : goal.returns-in-get_handicap-clause-some
returns-in-get_handicap-clause-some c = c.in-get_handicap.is

pub returns-in-get_handicap-clause-none : goal.returns-in-get_handicap-clause-none
returns-in-get_handicap-clause-none c = tt

pub returns-in_default-clause-some : goal.returns-in_default-clause-some
returns-in_default-clause-some c = tt

pub returns-in_default-clause-none : goal.returns-in_default-clause-none
returns-in_default-clause-none c = (c.in_default.not-showboard, (c.in_default.not-list_stones, (c.in_default.not-captures, (c.in_default.not-move_history, (c.in_default.not-query_boardsize, (c.in_default.not-get_komi, (c.in_default.not-get_handicap, tt)))))))
