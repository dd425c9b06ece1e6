use Rattle.std.proofs.lemmas.Bool.{both_ways}
use Rattle.whole_rules.specs.declared.states.Move.TheVariants.{Spend}
use Rattle.whole_rules.specs.FirstWinningMove.{IsWinning}
use Rattle.endgame_solver.proofs.WinningLaws.{first_stone, first_spend, first_half, last_wins, loses_none}
use Rattle.endgame_solver.proofs.winning_moves.first_winning_move.Goals as goal

pub returns-then-mover_loses-clause-first : goal.returns-then-mover_loses-clause-first
returns-then-mover_loses-clause-first c = loses_none c.args.present.now.whole.now (c.mover_loses.ensures.loses.0 c.if-mover_loses.true)

pub returns-in-Some-clause-first : goal.returns-in-Some-clause-first
returns-in-Some-clause-first c = first_stone c.args.present.now.whole.now c.in-Some.point (c.in-Some.ensures {u = tt}).first

pub returns-then-spend_wins-clause-first : goal.returns-then-spend_wins-clause-first
returns-then-spend_wins-clause-first c = first_spend c.args.present.now.whole.now (c.in_default.ensures {u = tt}).first (c.spend_wins.ensures.wins.0 c.if-spend_wins.true)

pub returns-clause-first : goal.returns-clause-first
returns-clause-first c =
    let s = c.args.present.now.whole.now in
    let none = (c.in_default.ensures {u = tt}).first in
    let not : ¬ IsWinning s Spend = λ w. both_ways c.spend_wins.result c.if-spend_wins.false (c.spend_wins.ensures.wins.1 w) in
    first_half s none not
    (last_wins c.requires.seen.kept (λ l. both_ways c.mover_loses.result c.if-mover_loses.false (c.mover_loses.ensures.loses.1 l)) none not)
