use Rattle.std.proofs.Common.{◌<◌, ◌*◌, arith, inl, inr}
use Rattle.benson_life.proofs.GroupLemmas.{leaders_are}
use Rattle.benson_life.proofs.StrikingLemmas.{alive_stone}
use Rattle.benson_life.proofs.WallLemmas.{counted_inside}
use Rattle.benson_life.proofs.chain_groups.leaders.Goals as goal

pub components-labels-requires : goal.components-labels-requires
components-labels-requires c p m =
    elim ((c.union.ensures p).0 m) as (λ _. p < c.size-size.result.columns * c.size-size.result.rows) [
      | inl a ↦ omega (arith, (alive_stone c.args.board.now c.args.colour p ((c.requires.alive p).0 a)).0, c.size-size.ensures.area)
      | inr d ↦
          let on = counted_inside c.args.board.now c.args.colour p ((c.requires.counted p).0 d) in
          omega (arith, on, c.size-size.ensures.area)
    ]

pub firsts-requires-clause-within : goal.firsts-requires-clause-within
firsts-requires-clause-within c p m =
    omega (arith, (alive_stone c.args.board.now c.args.colour p ((c.requires.alive p).0 m)).0, c.size-size.ensures.area)

pub returns : goal.returns
returns c =
    leaders_are c.args.board.now c.args.colour c.requires.settled.closed c.args.alive.now c.args.counted.now c.union.result c.firsts.result c.components-labels.result
    c.requires.alive c.requires.counted c.union.ensures (rw c.size-size.ensures.columns at c.components-labels.ensures) c.firsts.ensures
