use Rattle.std.proofs.Common.{ap, refl, ◌∙◌, ◌++◌, ◌∷◌, []}
use Rattle.local_graph.proofs.WalkLemmas.{goes_left}
use Rattle.local_graph.proofs.walk.Walk.leave.Goals as goal

pub returns-clause-goes : goal.returns-clause-goes
returns-clause-goes c =
    let order = c.push_reserved.ensures.items ∙ ap (λ l. l ++ c.args.place ∷ []) c.reserve.ensures.items in
    goes_left c.args.self.now _ c.args.place c.index.result.now c.requires c.index.ensures c.in-OnPath.is refl refl order refl
