use Rattle.std.proofs.Common.{◌∙◌, ◌-◌, length, take, arith, sym, ap, subst}
use Rattle.local_graph.specs.inner.Searching.{Searching}
use Rattle.local_graph.proofs.SearchLemmas.{last_inside, said_place, ends_in}
use Rattle.local_graph.proofs.search.Search.step.Goals as goal

pub follow-requires-clause-ends : goal.follow-requires-clause-ends
follow-requires-clause-ends c =
    let path = c.args.self.now.path.items in (
      take (length path - 1) path,
      ends_in path c.deref.result.now c.in-Some.last c.deref.ensures.value (sym c.last.ensures.value ∙ sym c.copied.ensures ∙ c.in-Some.is),
    )

pub place-requires : goal.place-requires
place-requires c =
    let s = c.args.self.now in
    let ends = ends_in s.path.items c.deref.result.now c.in-Some.last c.deref.ensures.value
    (sym c.last.ensures.value ∙ sym c.copied.ensures ∙ c.in-Some.is) in
    last_inside _ _ _ _ _ (subst (λ p. Searching c.args.edges.now p s.visits.items s.order.items) ends c.requires.under_way)

pub returns : goal.returns
returns c =
    let s = c.args.self.now in
    let ends = ends_in s.path.items c.deref.result.now c.in-Some.last c.deref.ensures.value
    (sym c.last.ensures.value ∙ sym c.copied.ensures ∙ c.in-Some.is) in
    let left = c.pop.ensures.rest ∙ ap (λ n. take (n - 1) s.path.items) s.path.ok.0 in
    said_place _ _ _ _ _ (subst (λ p. Searching c.args.edges.now p s.visits.items s.order.items) ends c.requires.under_way)
    _ _ _ _ ends (omega (arith, c.if-last-gt0.false)) (c.in_ok-place.ensures.path ∙ left) c.in_ok-place.ensures.visits
    c.in_ok-place.ensures.order
