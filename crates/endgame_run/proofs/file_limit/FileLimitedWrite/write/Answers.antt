use Rattle.endgame_run.proofs.CutLemmas.{taken_of_whole}
use Rattle.endgame_run.proofs.file_limit.FileLimitedWrite.write.Goals as goal

pub returns-clause-bytes : goal.returns-clause-bytes
returns-clause-bytes g c = taken_of_whole _ _ _ _ _ c.write.ensures.bound c.write.ensures.bytes
