use Rattle.gtp_engine.proofs.OneTextLaws.{has_one_beginning, has_one_text}
use Rattle.gtp_engine.proofs.WinLemmas.{win_is_kept}
use Rattle.gtp_engine.proofs.laws.session_laws.Goals as goal

pub returns : goal.returns
returns c = record { win = win_is_kept; one_text = has_one_text; one_beginning = has_one_beginning }
