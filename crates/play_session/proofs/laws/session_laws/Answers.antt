use Rattle.play_session.proofs.OneTextLaws.{has_one_text, has_one_beginning}
use Rattle.play_session.proofs.WinLaws.{win_is_kept}
use Rattle.play_session.proofs.EndLaws.{session_keeps_ko, won_sessions_end}
use Rattle.play_session.proofs.laws.session_laws.Goals as goal

pub returns-clause-win : goal.returns-clause-win
returns-clause-win c = win_is_kept

pub returns-clause-one_text : goal.returns-clause-one_text
returns-clause-one_text c = has_one_text

pub returns-clause-one_beginning : goal.returns-clause-one_beginning
returns-clause-one_beginning c = has_one_beginning

pub returns-clause-ends : goal.returns-clause-ends
returns-clause-ends c = won_sessions_end

pub returns-clause-ko : goal.returns-clause-ko
returns-clause-ko c = session_keeps_ko
