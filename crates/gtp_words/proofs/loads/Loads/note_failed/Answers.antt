use Rattle.gtp_words.proofs.LoadLemmas.{loads_failed}
use Rattle.gtp_words.proofs.loads.Loads.note_failed.Goals as goal

pub invariant_of-self-2 : goal.invariant_of-self-2
invariant_of-self-2 c = loads_failed c.self.inside.count c.self.inside.failures.items c.push.new.self.items c.in_ok-push.ensures.items c.self.invariant
