use Rattle.game_calc.proofs.LineSteps.{term-behind}
use Rattle.game_calc.proofs.BehindSteps.{close-stray}
use Rattle.game_calc.proofs.TurnSteps.{stray-told, closed-held, group-closed}
use Rattle.std.proofs.Common.{sym, ◌∙◌, rules}
use Rattle.game_calc.proofs.expressions.close_group.Goals as goal

pub with_term-requires-clause-before : goal.with_term-requires-clause-before
with_term-requires-clause-before c = closed-held c.args.source.now.pass c.args.store.now c.args.source.now.parts_limit c.args.source.now.text.now c.args.at c.args.amount c.args.pending.now.opens.items c.args.pending.now.first c.requires.reading c.args.word c.requires.word c.requires.close
    c.in-Some.opening c.pop.new.self.items c.in-Some.ensures.items

pub returns-clause-turn : goal.returns-clause-turn
returns-clause-turn c = group-closed c.args.source.now.pass c.args.store.now c.args.source.now.parts_limit c.args.source.now.text.now c.args.at c.args.amount c.args.pending.now.opens.items c.args.pending.now.first c.requires.reading c.args.word c.requires.word c.requires.close
    c.in-Some.opening c.pop.new.self.items c.in-Some.ensures.items c.with_term.new.store c.in_ok-amount.amount c.with_term.ensures.kept c.requires.some c.in_ok-amount.ensures.amount

pub returns-in_default-clause-refusal : goal.returns-in_default-clause-refusal
returns-in_default-clause-refusal c = stray-told c.args.source.now.parts_limit c.args.source.now.text.now c.args.at c.args.word c.requires.word
    (close-stray c.args.source.now.pass c.args.store.now c.args.source.now.parts_limit c.args.source.now.text.now c.args.at c.args.amount c.args.pending.now.opens.items c.args.pending.now.first (term-behind _ _ _ _ _ _ _ _ c.requires.reading) (sym c.requires.word.kind_is ∙ c.requires.close) (search rules))

pub returns-clause-kept : goal.returns-clause-kept
returns-clause-kept c = c.with_term.ensures.kept

pub returns-in_err-amount-clause-kept : goal.returns-in_err-amount-clause-kept
returns-in_err-amount-clause-kept c = c.with_term.ensures.kept
