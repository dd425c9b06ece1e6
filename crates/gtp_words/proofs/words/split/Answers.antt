use Rattle.gtp_words.proofs.WordLemmas.{split_all}
use Rattle.gtp_words.proofs.words.split.Goals as goal

pub returns : goal.returns
returns c = split_all _ _ _ c.splitting.invariant c.in_default.ensures.none
