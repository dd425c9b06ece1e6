use Rattle.std.proofs.Common.{inl}
use Rattle.local_play.proofs.LinkLemmas.{flood_start, flood_step, flood_end}
use Rattle.local_play.proofs.links.Links.flood.Goals as goal

pub flooding-init : goal.flooding-init
flooding-init c = record {
  first = λ q h. h;
  flooding = λ touch table. flood_start touch c.args.seeds c.args.within c.none-done.result c.none-near.result c.requires c.none-done.ensures c.none-near.ensures;
}

pub flooding-preserved : goal.flooding-preserved
flooding-preserved c = record {
  first = λ q h. (c.union-places.ensures.either q).1 (inl (c.flooding.invariant.first q h));
  flooding = λ touch table.
      flood_step touch c.args.self.now c.args.seeds c.args.within c.flooding.places c.flooding.done c.flooding.near c.without.result c.of.result
      c.near-links.result c.intersection.result c.union-places.result c.union-done.result c.union-near.result c.in-Some.place
      table (c.in-Some.ensures {u = tt}).0 c.without.ensures.rest (c.in-Some.ensures {u = tt}).1 c.near-links.ensures c.of.ensures c.union-done.ensures.either
      c.union-near.ensures.either c.intersection.ensures c.union-places.ensures.either (c.flooding.invariant.flooding touch table);
}

pub returns-clause-reached : goal.returns-clause-reached
returns-clause-reached c touch table =
    flood_end touch c.args.seeds c.args.within c.flooding.places c.flooding.done c.flooding.near c.without.result
    (c.flooding.invariant.flooding touch table) c.without.ensures.rest (c.in_default.ensures {u = tt})
