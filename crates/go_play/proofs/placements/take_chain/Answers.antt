use Rattle.std.proofs.lemmas.Bool.{both_ways}
use Rattle.go_grid.specs.Board.{other}
use Rattle.go_play.specs.inner.Place.{with_stone}
use Rattle.go_play.proofs.PlaceLemmas.{lost_before, none_lost}
use Rattle.go_play.proofs.placements.take_chain.Goals as goal
use Rattle.go_play.proofs.placements.take_chain.Goals.{else-contains-via-then-contains+else-not-contains, else-contains-via-else-contains}

pub returns-else-contains-clause-taken : goal.returns-else-contains-clause-taken
returns-else-contains-clause-taken c =
    let b = with_stone c.args.board.now c.args.point c.args.colour in
    let d = other c.args.colour in
    elim c.else-contains.branch [
      | else-contains-via-then-contains+else-not-contains w ↦
          lost_before b d c.args.stone c.args.judged.now c.args.taken.now c.requires.judged (w.contains-then-contains.ensures.0 w.if-not-contains.false)
      | else-contains-via-else-contains w ↦
          none_lost b d c.args.stone c.args.taken.now (λ on _. both_ways _ w.if-contains.false (c.contains.ensures.1 ((c.requires.tried.theirs c.args.stone).1 on)))
    ]
