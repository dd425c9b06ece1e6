use Rattle.std.proofs.Common.{arith}
use Rattle.game_calc.proofs.TurnSteps.{group-opened, group-deep}
use Rattle.game_calc.proofs.expressions.open_group.Goals as goal

pub returns-then-len-ge-MOST_OPEN-clause-refusal : goal.returns-then-len-ge-MOST_OPEN-clause-refusal
returns-then-len-ge-MOST_OPEN-clause-refusal c = group-deep c.args.source.now.pass c.args.store.now c.args.source.now.parts_limit c.args.source.now.text.now c.args.at c.args.opening c.args.pending.now.opens.items c.args.pending.now.first c.requires.reading c.args.word c.requires.word c.requires.open
    (λ l. omega (arith, l, c.if-len-ge-MOST_OPEN.true, c.len.ensures, c.args.pending.now.opens.ok.0))

pub returns-clause-turn : goal.returns-clause-turn
returns-clause-turn c = group-opened c.args.source.now.pass c.args.store.now c.args.source.now.parts_limit c.args.source.now.text.now c.args.at c.args.opening c.args.pending.now.opens.items c.args.pending.now.first c.requires.reading c.args.word c.requires.word
    c.sum_start-inner.result.at c.sum_start-inner.result.place c.push.new.self.items c.requires.some c.requires.open (omega (arith, c.if-len-ge-MOST_OPEN.false, c.len.ensures, c.args.pending.now.opens.ok.0)) c.in_ok-push.ensures.items
    c.sum_start-inner.ensures.place c.sum_start-inner.ensures.bytes c.sum_start-inner.ensures.forward c.sum_start-inner.ensures.within
