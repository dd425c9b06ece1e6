use Rattle.std.proofs.Common.{◌∙◌, sym, refl}
use Rattle.local_graph.proofs.EdgePartLemmas.{unpacked_as}
use Rattle.local_graph.proofs.short_edge.ShortEdge.edge.Goals as goal

pub returns : goal.returns
returns c = sym (unpacked_as c.self.inside.packed _ refl c.colour_of.ensures refl refl) ∙ c.self.view_is
