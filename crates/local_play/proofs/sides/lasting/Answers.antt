use Rattle.std.proofs.Common.{sym, subst}
use Rattle.std.proofs.lemmas.Bool.{both_ways}
use Rattle.local_play.specs.Places.{Has}
use Rattle.local_play.proofs.JudgingLemmas.{judging_start, judging_lasts, judging_not, judging_end}
use Rattle.local_play.proofs.sides.lasting.Goals as goal
use Rattle.local_play.proofs.sides.lasting.Goals.{then-lasts, else-lasts}

pub flood-chain-requires : goal.flood-chain-requires
flood-chain-requires c q h =
    subst (λ x. Has c.args.stones x) (sym ((c.of.ensures q).0 h)) (c.judging.invariant.stones c.in-Some.place (c.in-Some.ensures {u = tt}).1)

pub judging-preserved : goal.judging-preserved
judging-preserved c = record {
  stones = λ q h. c.judging.invariant.stones q ((c.without-rest-in-Some.ensures.rest q).0 h).0;
  judging = λ touch cells d table placed. elim c.if-lasts.branch [
    | then-lasts w ↦
        rw w.lasting-is
        (judging_lasts touch cells d c.args.stones c.args.beside c.args.empty c.judging.rest c.judging.lasting c.of.result c.without-rest-in-Some.result
        c.in-Some.place c.flood-chain.result table.within placed (c.judging.invariant.judging touch cells d table placed)
        (c.in-Some.ensures {u = tt}).1 c.of.ensures (c.flood-chain.ensures.reached touch table) c.without-rest-in-Some.ensures.rest
        w.union-lasting.result (c.lasts.ensures.0 w.if-lasts.true) w.union-lasting.ensures.either)
    | else-lasts w ↦
        rw w.lasting-is
        (judging_not touch cells d c.args.stones c.args.beside c.args.empty c.judging.rest c.judging.lasting c.of.result c.without-rest-in-Some.result
        c.in-Some.place c.flood-chain.result table.within placed (c.judging.invariant.judging touch cells d table placed)
        (c.in-Some.ensures {u = tt}).1 c.of.ensures (c.flood-chain.ensures.reached touch table) c.without-rest-in-Some.ensures.rest
        (λ h. both_ways _ w.if-lasts.false (c.lasts.ensures.1 h)))
  ];
}

pub judging-init : goal.judging-init
judging-init c = record {
  stones = λ q h. ((c.without-rest.ensures.rest q).0 h).0;
  judging = λ touch cells d table placed.
      judging_start touch cells d c.args.stones c.args.beside c.args.empty c.without-rest.result c.intersection-lasting.result placed
      c.intersection-lasting.ensures c.without-rest.ensures.rest;
}

pub returns : goal.returns
returns c touch cells d table placed =
    judging_end touch cells d c.judging.rest c.judging.lasting (c.judging.invariant.judging touch cells d table placed) (c.in_default.ensures {u = tt})
