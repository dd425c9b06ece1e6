use Rattle.std.proofs.Common.{false, refl}
use Rattle.std.proofs.lemmas.Bool.{both_ways}
use Rattle.gtp_engine.proofs.MoveLemmas.{cannot_open_with_cycles}
use Rattle.gtp_engine.proofs.playing.open_with_cycles.Goals as goal

pub returns-in_ok-unless_wanted-in-Err-clause-opened : goal.returns-in_ok-unless_wanted-in-Err-clause-opened
returns-in_ok-unless_wanted-in-Err-clause-opened g c =
    cannot_open_with_cycles c.args.limits.now false c.args.setup.now c.in-Err.fault c.in-Err.ensures.begun c.in_ok-unless_wanted-in-Err.ensures

-- an engine has no tax
pub begin-requires : goal.begin-requires
begin-requires g c = record { taxed = λ taxed. absurd (both_ways false refl taxed) }
