use Rattle.std.proofs.Common.{◌≡◌, ◌∙◌, arith, refl, ap}
use Rattle.std.proofs.lemmas.List.Sums.{count_by-le-length}
use Rattle.go_grid.specs.Board.{other}
use Rattle.go_grid.specs.Stones.{is_of}
use Rattle.local_graph.specs.inner.Ranks.{stones_of}
use Rattle.local_graph.proofs.return_orders.rank_of.Goals as goal

pub returns : goal.returns
returns c = record {
  component_is = refl;
  place_is = refl;
  lack_is = λ cells fits is.
      let own : c.from-own.result ≡ stones_of c.args.colour cells = c.from-own.ensures ∙ c.count_of-2.ensures cells is in
      let others : c.from-others.result ≡ stones_of (other c.args.colour) cells =
      c.from-others.ensures ∙ c.count_of.ensures cells is ∙ ap (λ d. stones_of d cells) c.other.ensures in
      omega (arith, own, others, c.saturating_sub.ensures, fits, count_by-le-length (is_of c.args.colour) cells, count_by-le-length (is_of (other c.args.colour)) cells);
}
