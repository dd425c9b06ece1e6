use Rattle.game_calc.proofs.LineSteps.{term-behind}
use Rattle.game_calc.proofs.BehindSteps.{value-read, order-read, group-cut}
use Rattle.game_calc.proofs.TurnSteps.{cut-told, emptied, filled}
use Rattle.game_calc.proofs.expressions.whole.Goals as goal

pub returns-then-not-is_empty-clause-refusal : goal.returns-then-not-is_empty-clause-refusal
returns-then-not-is_empty-clause-refusal c =
    cut-told c.args.source.now.parts_limit c.args.source.now.text.now (group-cut c.args.source.now.pass c.args.store.now c.args.source.now.parts_limit c.args.source.now.text.now c.args.at c.args.amount c.args.pending.now.opens.items c.args.pending.now.first
    (term-behind _ _ _ _ _ _ _ _ c.requires.reading) c.requires.end (filled _ _ _ c.args.pending.now.opens.ok.0 c.is_empty.ensures c.if-not-is_empty.true))

pub returns-in-None-clause-turn : goal.returns-in-None-clause-turn
returns-in-None-clause-turn c =
    value-read c.args.source.now.pass c.args.store.now c.args.source.now.parts_limit c.args.source.now.text.now c.args.at c.args.amount c.args.pending.now.opens.items c.args.pending.now.first
    (term-behind _ _ _ _ _ _ _ _ c.requires.reading) c.requires.end (emptied _ _ _ c.args.pending.now.opens.ok.0 c.is_empty.ensures c.if-not-is_empty.false) c.in-None.is

pub returns-in-Some-clause-turn : goal.returns-in-Some-clause-turn
returns-in-Some-clause-turn c =
    order-read c.args.source.now.pass c.args.store.now c.args.source.now.parts_limit c.args.source.now.text.now c.args.at c.args.amount c.args.pending.now.opens.items c.args.pending.now.first
    (term-behind _ _ _ _ _ _ _ _ c.requires.reading) c.in-Some.first c.requires.end (emptied _ _ _ c.args.pending.now.opens.ok.0 c.is_empty.ensures c.if-not-is_empty.false) c.in-Some.is
