use Rattle.std.proofs.Common.{◌<◌, ◌≡◌, ◌∙◌, length, sym, subst, get_or, arith}
use Rattle.std.proofs.lemmas.List.{get_or_default}
use Rattle.endgame_solver.specs.Solved.{IsPresent}
use Rattle.endgame_solver.proofs.HeldLaws.{present}
use Rattle.endgame_solver.proofs.solved.Solved.present.Goals as goal

pub returns : goal.returns
returns c =
    let i = c.self.inside in
    let kept = c.self.invariant.0.kept in
    let lt = subst (λ v. c.args.i < length v.regions) (sym c.self.view_is) c.requires in
    let short : c.args.i < length i.sum.items = omega (arith, lt, kept.summed.many) in
    let is : get_or i.sum.items c.args.i 0 ≡ c.index.result.now = get_or_default i.sum.items c.args.i 0 c.index.result.now short ∙ sym c.index.ensures in
    subst (λ T. T) (λ j. IsPresent (c.self.view_is j) c.args.i (is j)) ((present kept.solved kept.at i.sum.items kept.summed).each c.args.i lt)
