use Rattle.gtp_words.proofs.OneTextLaws.{have_one_beginning, have_one_text}
use Rattle.gtp_words.proofs.laws.session_laws.Goals as goal

pub returns-clause-one_text : goal.returns-clause-one_text
returns-clause-one_text g c = have_one_text g.A.RepliesAlike.State g.A.RepliesAlike.replies g.A.RepliesAlike.alike

pub returns-clause-one_beginning : goal.returns-clause-one_beginning
returns-clause-one_beginning g c = have_one_beginning g.A.RepliesAlike.State g.A.RepliesAlike.replies g.A.RepliesAlike.alike
