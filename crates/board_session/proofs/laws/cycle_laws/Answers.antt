use Rattle.board_session.proofs.CycleLawLemmas.{game_goes_on, one_kind_is_told, win_is_kept}
use Rattle.board_session.proofs.laws.cycle_laws.Goals as goal

pub returns-clause-win : goal.returns-clause-win
returns-clause-win c = win_is_kept

pub returns-clause-on : goal.returns-clause-on
returns-clause-on c = game_goes_on

pub returns-clause-one : goal.returns-clause-one
returns-clause-one c = one_kind_is_told
