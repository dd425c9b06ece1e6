use Rattle.std.proofs.Common.{sym, ◌∙◌}
use Rattle.game_calc.proofs.LineSteps.{term-behind}
use Rattle.game_calc.proofs.BehindSteps.{query-within, query-again}
use Rattle.game_calc.proofs.TurnSteps.{stray-told, second-begun, emptied, filled}
use Rattle.game_calc.proofs.expressions.second_sum.Goals as goal

pub returns-then-not-is_empty-clause-refusal : goal.returns-then-not-is_empty-clause-refusal
returns-then-not-is_empty-clause-refusal c = stray-told c.args.source.now.parts_limit c.args.source.now.text.now c.args.at c.args.word c.requires.word
    (query-within c.args.source.now.pass c.args.store.now c.args.source.now.parts_limit c.args.source.now.text.now c.args.at c.args.amount c.args.pending.now.opens.items c.args.pending.now.first (term-behind _ _ _ _ _ _ _ _ c.requires.reading)
    (sym c.requires.word.kind_is ∙ c.requires.query) (filled _ _ _ c.args.pending.now.opens.ok.0 c.is_empty.ensures c.if-not-is_empty.true))

pub returns-in-Some-clause-refusal : goal.returns-in-Some-clause-refusal
returns-in-Some-clause-refusal c = stray-told c.args.source.now.parts_limit c.args.source.now.text.now c.args.at c.args.word c.requires.word
    (query-again c.args.source.now.pass c.args.store.now c.args.source.now.parts_limit c.args.source.now.text.now c.args.at c.args.amount c.args.pending.now.opens.items c.args.pending.now.first (term-behind _ _ _ _ _ _ _ _ c.requires.reading)
    _ (sym c.requires.word.kind_is ∙ c.requires.query) c.in-Some.is)

pub returns-in-None-clause-turn : goal.returns-in-None-clause-turn
returns-in-None-clause-turn c = second-begun c.args.source.now.pass c.args.store.now c.args.source.now.parts_limit c.args.source.now.text.now c.args.at c.args.amount c.args.pending.now.opens.items c.args.pending.now.first c.requires.reading c.args.word c.requires.word
    c.sum_start.result.at c.sum_start.result.place c.requires.some c.requires.query (emptied _ _ _ c.args.pending.now.opens.ok.0 c.is_empty.ensures c.if-not-is_empty.false) c.in-None.is c.sum_start.ensures.place c.sum_start.ensures.bytes c.sum_start.ensures.forward c.sum_start.ensures.within
