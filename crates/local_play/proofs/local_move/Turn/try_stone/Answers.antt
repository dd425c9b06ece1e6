use Rattle.std.proofs.Common.{refl, sym, subst}
use Rattle.std.proofs.lemmas.Bool.{both_ways}
use Rattle.local_play.specs.LocalPlay.{Holds, with_stone}
use Rattle.local_play.proofs.MoveLemmas.{tried_none, tried_plain, tried_taking, gone_holds, place, empty}
use Rattle.local_play.proofs.local_move.Turn.try_stone.Goals as goal

pub returns-then-not-stands : goal.returns-then-not-stands
returns-then-not-stands c touch cells table turn here =
    tried_none touch cells c.args.links.now c.args.self.now c.args.place c.near-near.result c.without.result c.intersection-taken.result
    table turn here c.requires.small c.near-near.ensures c.without.ensures.rest c.intersection-taken.ensures c.if-is_empty.ensures
    (λ s. both_ways _ c.if-not-stands.true (c.stands.ensures.1 s))

pub returns-then-is_empty : goal.returns-then-is_empty
returns-then-is_empty c touch cells table turn here =
    let at = place touch cells c.args.links.now c.args.self.now c.args.place c.near-near.result c.without.result c.intersection-taken.result
    table turn here c.requires.small c.near-near.ensures c.without.ensures.rest c.intersection-taken.ensures in
    let bare = empty touch cells c.args.links.now c.args.self.now c.args.place c.near-near.result c.without.result c.intersection-taken.result
    table turn here c.requires.small c.near-near.ensures c.without.ensures.rest c.intersection-taken.ensures in (
      refl,
      refl,
      tried_plain touch cells c.args.links.now c.args.self.now c.args.place c.near-near.result c.without.result c.intersection-taken.result
          table turn here c.requires.small c.near-near.ensures c.without.ensures.rest c.intersection-taken.ensures _ refl refl
          (c.with_stone-next.ensures cells turn.from at bare) refl c.if-is_empty.ensures (c.stands.ensures.0 c.if-not-stands.false),
    )

pub returns : goal.returns
returns c touch cells table turn here =
    let at = place touch cells c.args.links.now c.args.self.now c.args.place c.near-near.result c.without.result c.intersection-taken.result
    table turn here c.requires.small c.near-near.ensures c.without.ensures.rest c.intersection-taken.ensures in
    let bare = empty touch cells c.args.links.now c.args.self.now c.args.place c.near-near.result c.without.result c.intersection-taken.result
    table turn here c.requires.small c.near-near.ensures c.without.ensures.rest c.intersection-taken.ensures in
    let reached = c.flood.ensures.reached touch table in
    let holds = gone_holds touch cells c.args.links.now c.args.self.now c.args.place c.near-near.result c.without.result
    c.intersection-taken.result table turn here c.requires.small c.near-near.ensures c.without.ensures.rest c.intersection-taken.ensures
    c.flood.result reached in (
      refl,
      refl,
      tried_taking touch cells c.args.links.now c.args.self.now c.args.place c.near-near.result c.without.result c.intersection-taken.result
          table turn here c.requires.small c.near-near.ensures c.without.ensures.rest c.intersection-taken.ensures _ c.flood.result
          c.if-is_empty.ensures.0 reached c.if-is_empty.ensures.1 refl refl
          (c.without-2.ensures (with_stone cells c.args.place c.args.self.now.colour) (c.with_stone-next.ensures cells turn.from at bare)
          (λ q h. subst (λ d. Holds (with_stone cells c.args.place c.args.self.now.colour) d q) (sym c.other.ensures) (holds q h)))
          c.count.ensures,
    )
