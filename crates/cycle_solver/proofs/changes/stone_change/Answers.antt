use Rattle.std.proofs.Common.{ℕ, ◌∙◌, refl, subst}
use Rattle.local_graph.specs.declared.graph.Edge.{Edge}
use Rattle.whole_rules.specs.Purses.{paid_in}
use Rattle.cycle_solver.specs.Held.{IsStoneEdge}
use Rattle.cycle_solver.proofs.ChangeLaws.{have_edges, none_legal, stone_change}
use Rattle.cycle_solver.proofs.StoneLaws.{stone_next}
use Rattle.cycle_solver.proofs.changes.stone_change.Goals as goal

pub stone_edge-requires : goal.stone_edge-requires
stone_edge-requires c = have_edges c.requires

pub returns-in_default : goal.returns-in_default
returns-in_default c =
    let seen = c.args.present.now in
    none_legal c.requires (subst (λ d. (k : ℕ) (e : Edge) → ¬ IsStoneEdge seen.regions.now seen.games.now seen.places.now d c.args.point k e) c.side-side.ensures
    (c.in_default.ensures {u = tt}))

pub is_returning-requires-clause-place : goal.is_returning-requires-clause-place
is_returning-requires-clause-place c = (have_edges c.requires).inside c.in-Some.k c.in-Some.ensures.known

pub is_returning-requires-clause-next : goal.is_returning-requires-clause-next
is_returning-requires-clause-next c =
    stone_next c.requires.solved c.requires.at (subst (λ d. IsStoneEdge c.args.present.now.regions.now c.args.present.now.games.now c.args.present.now.places.now
    d c.args.point c.in-Some.k c.in-Some.edge) c.side-side.ensures c.in-Some.ensures)

pub returns : goal.returns
returns c =
    let seen = c.args.present.now in
    stone_change seen c.requires
    (subst (λ d. IsStoneEdge seen.regions.now seen.games.now seen.places.now d c.args.point c.in-Some.k c.in-Some.edge) c.side-side.ensures c.in-Some.ensures)
    refl
    c.is_returning.ensures
    (c.paid_in.ensures ∙ (λ i. paid_in (c.side-side.ensures i) (c.from.ensures i) (c.purses.ensures i)))
