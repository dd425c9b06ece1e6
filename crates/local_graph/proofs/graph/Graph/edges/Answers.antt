use Rattle.std.proofs.Common.{arith, ap, ◌∙◌, ◌<◌, [], List, length, slice_index_or}
use Rattle.std.proofs.lemmas.List.{get_or_default}
use Rattle.local_graph.specs.declared.graph.Edge.{Edge}
use Rattle.local_graph.proofs.graph.Graph.edges.Goals as goal

inside : (c : goal.After-self) → c.args.place < length c.self.inside.edges.items
inside c = omega (
  arith,
  c.requires,
  ap (λ (es : List (List Edge)). length es) c.self.invariant.0,
  c.self.invariant.1,
  ap (λ g. length g.positions) c.self.view_is,
)

pub index-requires : goal.index-requires
index-requires c = omega (arith, inside c, c.self.inside.edges.ok)

pub returns : goal.returns
returns c =
    let lt : c.args.place < length c.self.inside.edges.items = omega (
      arith,
      c.requires,
      ap (λ (es : List (List Edge)). length es) c.self.invariant.0,
      c.self.invariant.1,
      ap (λ g. length g.positions) c.self.view_is,
    ) in
    c.as_slice.ensures ∙ c.index.ensures ∙ get_or_default c.self.inside.edges.items c.args.place c.index.result.now [] lt
    ∙ ap (λ (es : List (List Edge)). slice_index_or es c.args.place []) (c.self.invariant.0 ∙ ap (λ g. g.edges) c.self.view_is)
