use Rattle.std.proofs.Common.{subst, sym, ap, ◌∙◌}
use Rattle.engine_player.specs.inner.Kept.{IsFitPlayer}
use Rattle.engine_player.proofs.FitLemmas.{fit_less}
use Rattle.engine_player.proofs.cycle_player.CyclePlayer.take_out.Goals as goal

pub invariant_of-self : goal.invariant_of-self
invariant_of-self c =
    let i = c.self.inside in
    subst (λ z. IsFitPlayer z i.black i.white i.scratch.items i.moves) (sym c.take_out.ensures)
    (fit_less i.game i.black i.white i.scratch.items i.moves c.self.invariant c.args.colour c.args.points
    (ap (λ p. p.keeping.black) c.self.view_is ∙ c.requires.nothing.0) (ap (λ p. p.keeping.white) c.self.view_is ∙ c.requires.nothing.1))
