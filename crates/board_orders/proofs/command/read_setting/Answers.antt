use Rattle.board_orders.proofs.command.read_setting.Goals as goal

pub returns-in-fixed_handicap-clause-some : goal.returns-in-fixed_handicap-clause-some
returns-in-fixed_handicap-clause-some c = c.in-fixed_handicap.is

pub returns-in-fixed_handicap-clause-none : goal.returns-in-fixed_handicap-clause-none
returns-in-fixed_handicap-clause-none c = tt

pub returns-in-set_free_handicap-clause-some : goal.returns-in-set_free_handicap-clause-some
returns-in-set_free_handicap-clause-some c = c.in-set_free_handicap.is

pub returns-in-set_free_handicap-clause-none : goal.returns-in-set_free_handicap-clause-none
returns-in-set_free_handicap-clause-none c = tt

pub returns-in-level-clause-some : goal.returns-in-level-clause-some
returns-in-level-clause-some c = c.in-level.is

pub returns-in-level-clause-none : goal.returns-in-level-clause-none
returns-in-level-clause-none c = tt

pub returns-in-time_settings-clause-some : goal.returns-in-time_settings-clause-some
returns-in-time_settings-clause-some c = c.in-time_settings.is

pub returns-in-time_settings-clause-none : goal.returns-in-time_settings-clause-none
returns-in-time_settings-clause-none c = tt

pub returns-in-time_left-clause-some : goal.returns-in-time_left-clause-some
returns-in-time_left-clause-some c = c.in-time_left.is

pub returns-in-time_left-clause-none : goal.returns-in-time_left-clause-none
returns-in-time_left-clause-none c = tt

pub returns-in_default-clause-some : goal.returns-in_default-clause-some
returns-in_default-clause-some c = tt

pub returns-in_default-clause-none : goal.returns-in_default-clause-none
returns-in_default-clause-none c = (c.in_default.not-fixed_handicap, (c.in_default.not-set_free_handicap, (c.in_default.not-level, (c.in_default.not-time_settings, (c.in_default.not-time_left, tt)))))
