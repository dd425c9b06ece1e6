use Rattle.gd_words.proofs.JobLemmas.{one_job}
use Rattle.gd_words.proofs.laws.words_laws.Goals as goal

pub returns : goal.returns
returns c = one_job
