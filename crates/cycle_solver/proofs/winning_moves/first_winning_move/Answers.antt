use Rattle.std.proofs.Common.{◌∙◌, subst, sym}
use Rattle.std.proofs.lemmas.Bool.{both_ways}
use Rattle.whole_rules.specs.declared.states.Move.TheVariants.{Spend}
use Rattle.whole_rules.specs.FirstWinningMove.{IsWinner, IsWinning}
use Rattle.endgame_solver.proofs.WinningLaws.{first_half, first_spend, first_stone}
use Rattle.cycle_solver.specs.Held.{IsSeenFor, enough}
use Rattle.cycle_solver.proofs.ChangeLaws.{half_last, move_winner}
use Rattle.cycle_solver.proofs.winning_moves.first_winning_move.Goals as goal

pub wins-requires-clause-seen : goal.wins-requires-clause-seen
wins-requires-clause-seen c = subst (λ d. IsSeenFor c.args.present.now d enough c.args.sum.now) (sym c.side-side.ensures) c.requires.seen

pub returns-then-not-wins-clause-first : goal.returns-then-not-wins-clause-first
returns-then-not-wins-clause-first c = λ m w.
    let s = c.args.present.now.whole.now in
    both_ways c.wins.result c.if-not-wins.true (c.wins.ensures.wins.1 (subst (IsWinner s) (sym c.side-side.ensures) (move_winner s m w)))

pub returns-in-Some-clause-first : goal.returns-in-Some-clause-first
returns-in-Some-clause-first c = first_stone c.args.present.now.whole.now c.in-Some.point (c.in-Some.ensures {u = tt}).first

pub returns-then-move_wins-clause-first : goal.returns-then-move_wins-clause-first
returns-then-move_wins-clause-first c = first_spend c.args.present.now.whole.now (c.in_default.ensures {u = tt}).first (c.move_wins.ensures.wins.0 c.if-move_wins.true)

pub returns-clause-first : goal.returns-clause-first
returns-clause-first c =
    let s = c.args.present.now.whole.now in
    let none = (c.in_default.ensures {u = tt}).first in
    let not : ¬ IsWinning s Spend = λ w. both_ways c.move_wins.result c.if-move_wins.false (c.move_wins.ensures.wins.1 w) in
    let winner = subst (IsWinner s) c.side-side.ensures (c.wins.ensures.wins.0 c.if-not-wins.false) in
    first_half s none not (half_last s winner none not)

pub wins-requires-clause-fits : goal.wins-requires-clause-fits
wins-requires-clause-fits c = c.requires.fits

pub returns-then-not-wins-clause-same : goal.returns-then-not-wins-clause-same
returns-then-not-wins-clause-same c = c.wins.ensures.same

pub returns-then-not-wins-clause-fits : goal.returns-then-not-wins-clause-fits
returns-then-not-wins-clause-fits c = c.wins.ensures.fits

pub winning_stone-requires-clause-seen : goal.winning_stone-requires-clause-seen
winning_stone-requires-clause-seen c =
    subst (λ ids. IsSeenFor c.args.present.now c.args.present.now.whole.now.side enough ids) (sym (c.wins.ensures.same)) c.requires.seen

pub winning_stone-requires-clause-fits : goal.winning_stone-requires-clause-fits
winning_stone-requires-clause-fits c = c.wins.ensures.fits

pub returns-in-Some-clause-same : goal.returns-in-Some-clause-same
returns-in-Some-clause-same c = c.winning_stone.ensures.same ∙ c.wins.ensures.same

pub returns-in-Some-clause-fits : goal.returns-in-Some-clause-fits
returns-in-Some-clause-fits c = c.winning_stone.ensures.fits

pub move_wins-requires-clause-seen : goal.move_wins-requires-clause-seen
move_wins-requires-clause-seen c =
    subst (λ ids. IsSeenFor c.args.present.now c.args.present.now.whole.now.side enough ids) (sym (c.winning_stone.ensures.same ∙ c.wins.ensures.same)) c.requires.seen

pub move_wins-requires-clause-fits : goal.move_wins-requires-clause-fits
move_wins-requires-clause-fits c = c.winning_stone.ensures.fits

pub returns-then-move_wins-clause-same : goal.returns-then-move_wins-clause-same
returns-then-move_wins-clause-same c = c.move_wins.ensures.same ∙ c.winning_stone.ensures.same ∙ c.wins.ensures.same

pub returns-then-move_wins-clause-fits : goal.returns-then-move_wins-clause-fits
returns-then-move_wins-clause-fits c = c.move_wins.ensures.fits

pub returns-clause-same : goal.returns-clause-same
returns-clause-same c = c.move_wins.ensures.same ∙ c.winning_stone.ensures.same ∙ c.wins.ensures.same

pub returns-clause-fits : goal.returns-clause-fits
returns-clause-fits c = c.move_wins.ensures.fits
