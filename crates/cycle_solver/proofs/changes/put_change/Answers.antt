use Rattle.std.proofs.Common.{◌<◌, ◌∙◌, arith, get_or, length, set, subst, sym}
use Rattle.sum_outcome.proofs.ListLaws.{put_back}
use Rattle.cycle_solver.specs.Changes.{AreBehind, places_after}
use Rattle.cycle_solver.specs.GameLists.{game_at}
use Rattle.cycle_solver.specs.Held.{AreSummedBy, ids_with}
use Rattle.cycle_solver.proofs.ChangeLaws.{stone_known, stone_place, summed_none, summed_put}
use Rattle.cycle_solver.proofs.changes.put_change.Goals as goal

pub value_with-requires-clause-number : goal.value_with-requires-clause-number
value_with-requires-clause-number c =
    let present = c.args.present.now in
    let known = stone_known present c.args.change c.requires.change c.in-Some.is in
    omega (arith, known, c.requires.seen.solved.many)

pub value_with-requires-clause-place : goal.value_with-requires-clause-place
value_with-requires-clause-place c =
    let present = c.args.present.now in
    let held = c.requires.seen in
    let known = stone_known present c.args.change c.requires.change c.in-Some.is in
    let short : c.in-Some.k < length present.games.now = omega (arith, known, held.solved.many) in
    stone_place present c.args.change c.requires.change c.in-Some.is short (omega (arith, known, held.at.many)) c.args.player c.args.budget

pub returns-in-None-clause-put : goal.returns-in-None-clause-put
returns-in-None-clause-put c = summed_none c.args.budget c.in-None.is

pub returns-in-Some-clause-back : goal.returns-in-Some-clause-back
returns-in-Some-clause-back c = put_back c.args.sum.now c.in-Some.k c.value_with.result

pub returns-in-Some-clause-put : goal.returns-in-Some-clause-put
returns-in-Some-clause-put c = λ before behind are summed.
    let present = c.args.present.now in
    let held = c.requires.seen in
    let k = c.in-Some.k in
    let v = c.value_with.result in
    let known = stone_known present c.args.change c.requires.change c.in-Some.is in
    let (own, others) = subst (λ o. AreBehind o c.args.budget before behind) c.in-Some.is are in
    let value = c.value_with.ensures
    ∙ (λ i. get_or (ids_with (game_at present.games.now k) c.args.player (sym own i)) c.in-Some.place 0) in
    subst (λ o. AreSummedBy present.games.now (places_after present.places.now o) c.args.player behind (set c.args.sum.now k v)) (sym c.in-Some.is)
    (summed_put k c.in-Some.place v (omega (arith, known, held.at.many)) (omega (arith, known, held.solved.many)) summed others value)
