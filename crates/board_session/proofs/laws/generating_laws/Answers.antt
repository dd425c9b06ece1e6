use Rattle.board_session.proofs.GeneratedLawLemmas.{boards_stay_settled, game_goes_on, one_kind_is_told, win_is_kept}
use Rattle.board_session.proofs.laws.generating_laws.Goals as goal

pub returns-clause-win : goal.returns-clause-win
returns-clause-win c = win_is_kept

pub returns-clause-on : goal.returns-clause-on
returns-clause-on c = game_goes_on

pub returns-clause-one : goal.returns-clause-one
returns-clause-one c = one_kind_is_told

pub returns-clause-settled : goal.returns-clause-settled
returns-clause-settled c = boards_stay_settled
