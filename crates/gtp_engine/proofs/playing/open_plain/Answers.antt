use Rattle.std.proofs.Common.{false, refl}
use Rattle.std.proofs.lemmas.Bool.{both_ways}
use Rattle.gtp_engine.proofs.MoveLemmas.{cannot_open}
use Rattle.gtp_engine.proofs.playing.open_plain.Goals as goal

pub returns-in_ok-unless_memory-in-Err-clause-opened : goal.returns-in_ok-unless_memory-in-Err-clause-opened
returns-in_ok-unless_memory-in-Err-clause-opened g c = cannot_open c.args.limits.now false c.args.setup.now c.in-Err.fault c.in-Err.ensures.begun c.in_ok-unless_memory-in-Err.ensures

-- an engine has no tax
pub begin-requires : goal.begin-requires
begin-requires g c = record { taxed = λ taxed. absurd (both_ways false refl taxed) }
