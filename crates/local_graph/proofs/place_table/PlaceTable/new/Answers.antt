use Rattle.std.proofs.Common.{arith, sym, subst, inl, ◌≢◌, ◌∙◌}
use Rattle.std.specs.List.{AllPairs}
use Rattle.std.proofs.Math.Nat.{one-le-pow, pow-le-pow_right}
use Rattle.local_graph.proofs.TableLemmas.{none_numbered}
use Rattle.local_graph.proofs.place_table.PlaceTable.new.Goals as goal

pub pow-requires : goal.pow-requires
pow-requires c = omega (arith, pow-le-pow_right {n = 3} (omega arith) c.requires)

pub returns-clause-table : goal.returns-clause-table
returns-clause-table c = record {
  numbered = none_numbered _ _ c.new.ensures.items;
  any = omega (arith, c.pow.ensures, one-le-pow c.args.places 3 (omega arith));
  once = subst (AllPairs (λ a b. a ≢ b)) (sym c.new.ensures.items) (λ i j d lt short. absurd (omega arith));
  found = inl record { none = c.new-3.ensures.items; keys = c.new-2.ensures.empty ∙ sym c.new.ensures.items };
}
