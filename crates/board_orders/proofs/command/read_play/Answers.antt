use Rattle.board_orders.proofs.command.read_play.Goals as goal

pub returns-in-boardsize-clause-some : goal.returns-in-boardsize-clause-some
returns-in-boardsize-clause-some c = c.in-boardsize.is

pub returns-in-boardsize-clause-none : goal.returns-in-boardsize-clause-none
returns-in-boardsize-clause-none c = tt

pub returns-in-clear_board-clause-some : goal.returns-in-clear_board-clause-some
returns-in-clear_board-clause-some c = c.in-clear_board.is

pub returns-in-clear_board-clause-none : goal.returns-in-clear_board-clause-none
returns-in-clear_board-clause-none c = tt

pub returns-in-komi-clause-some : goal.returns-in-komi-clause-some
returns-in-komi-clause-some c = c.in-komi.is

pub returns-in-komi-clause-none : goal.returns-in-komi-clause-none
returns-in-komi-clause-none c = tt

pub returns-in-play-clause-some : goal.returns-in-play-clause-some
returns-in-play-clause-some c = c.in-play.is

pub returns-in-play-clause-none : goal.returns-in-play-clause-none
returns-in-play-clause-none c = tt

pub returns-in-genmove-clause-some : goal.returns-in-genmove-clause-some
returns-in-genmove-clause-some c = c.in-genmove.is

pub returns-in-genmove-clause-none : goal.returns-in-genmove-clause-none
returns-in-genmove-clause-none c = tt

pub returns-in-reg_genmove-clause-some : goal.returns-in-reg_genmove-clause-some
returns-in-reg_genmove-clause-some c = c.in-reg_genmove.is

pub returns-in-reg_genmove-clause-none : goal.returns-in-reg_genmove-clause-none
returns-in-reg_genmove-clause-none c = tt

pub returns-in-loadsgf-clause-some : goal.returns-in-loadsgf-clause-some
returns-in-loadsgf-clause-some c = c.in-loadsgf.is

pub returns-in-loadsgf-clause-none : goal.returns-in-loadsgf-clause-none
returns-in-loadsgf-clause-none c = tt

pub returns-in-undo-clause-some : goal.returns-in-undo-clause-some
returns-in-undo-clause-some c = c.in-undo.is

pub returns-in-undo-clause-none : goal.returns-in-undo-clause-none
returns-in-undo-clause-none c = tt

pub returns-in_default-clause-some : goal.returns-in_default-clause-some
returns-in_default-clause-some c = tt

pub returns-in_default-clause-none : goal.returns-in_default-clause-none
returns-in_default-clause-none c = (c.in_default.not-boardsize, (c.in_default.not-clear_board, (c.in_default.not-komi, (c.in_default.not-play, (c.in_default.not-genmove, (c.in_default.not-reg_genmove, (c.in_default.not-loadsgf, (c.in_default.not-undo, tt))))))))
