use Rattle.gtp_words.proofs.LoadLemmas.{loads_more}
use Rattle.gtp_words.proofs.loads.Loads.note_made.Goals as goal

pub invariant_of-self : goal.invariant_of-self
invariant_of-self c = loads_more c.self.inside.count c.self.inside.failures.items c.self.invariant
