use Rattle.std.proofs.Common.{subst}
use Rattle.gtp_engine.specs.Request.{FitsTwo}
use Rattle.gtp_engine.proofs.request.with_two.Goals as goal

pub returns-in-None-clause-none : goal.returns-in-None-clause-none
returns-in-None-clause-none c order fits =
    let h = subst (λ k. FitsTwo k c.args.first.now c.args.second.now order) c.in-LoadSgf.is fits in c.in-None.ensures.none h.0 h.1 h.2
