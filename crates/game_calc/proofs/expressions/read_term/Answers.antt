use Rattle.game_calc.specs.declared.tokens.Kind.TheVariants.{Plus, Minus, Close, Query}
use Rattle.game_calc.proofs.TurnSteps.{none-due, stray-due}
use Rattle.game_calc.proofs.expressions.read_term.Goals as goal

pub returns-in-End-clause-refusal : goal.returns-in-End-clause-refusal
returns-in-End-clause-refusal c = none-due c.args.source.now.pass c.args.store.now c.args.source.now.parts_limit c.args.source.now.text.now c.args.at c.args.opening c.args.pending.now.opens.items c.args.pending.now.first c.requires.reading c.next_token-word.result
    (record { kind_is = c.next_token-word.ensures.kind; start_is = c.next_token-word.ensures.start; token_is = c.next_token-word.ensures.token; rest_is = c.next_token-word.ensures.rest; forward = c.next_token-word.ensures.forward; within = c.next_token-word.ensures.within }) c.in-End.is

pub returns-in-Plus-clause-refusal : goal.returns-in-Plus-clause-refusal
returns-in-Plus-clause-refusal c = stray-due c.args.source.now.pass c.args.store.now c.args.source.now.parts_limit c.args.source.now.text.now c.args.at c.args.opening c.args.pending.now.opens.items c.args.pending.now.first c.requires.reading c.next_token-word.result
    (record { kind_is = c.next_token-word.ensures.kind; start_is = c.next_token-word.ensures.start; token_is = c.next_token-word.ensures.token; rest_is = c.next_token-word.ensures.rest; forward = c.next_token-word.ensures.forward; within = c.next_token-word.ensures.within }) Plus c.in-Plus.is tt

pub returns-in-Minus-clause-refusal : goal.returns-in-Minus-clause-refusal
returns-in-Minus-clause-refusal c = stray-due c.args.source.now.pass c.args.store.now c.args.source.now.parts_limit c.args.source.now.text.now c.args.at c.args.opening c.args.pending.now.opens.items c.args.pending.now.first c.requires.reading c.next_token-word.result
    (record { kind_is = c.next_token-word.ensures.kind; start_is = c.next_token-word.ensures.start; token_is = c.next_token-word.ensures.token; rest_is = c.next_token-word.ensures.rest; forward = c.next_token-word.ensures.forward; within = c.next_token-word.ensures.within }) Minus c.in-Minus.is tt

pub returns-in-Close-clause-refusal : goal.returns-in-Close-clause-refusal
returns-in-Close-clause-refusal c = stray-due c.args.source.now.pass c.args.store.now c.args.source.now.parts_limit c.args.source.now.text.now c.args.at c.args.opening c.args.pending.now.opens.items c.args.pending.now.first c.requires.reading c.next_token-word.result
    (record { kind_is = c.next_token-word.ensures.kind; start_is = c.next_token-word.ensures.start; token_is = c.next_token-word.ensures.token; rest_is = c.next_token-word.ensures.rest; forward = c.next_token-word.ensures.forward; within = c.next_token-word.ensures.within }) Close c.in-Close.is tt

pub returns-in-Query-clause-refusal : goal.returns-in-Query-clause-refusal
returns-in-Query-clause-refusal c = stray-due c.args.source.now.pass c.args.store.now c.args.source.now.parts_limit c.args.source.now.text.now c.args.at c.args.opening c.args.pending.now.opens.items c.args.pending.now.first c.requires.reading c.next_token-word.result
    (record { kind_is = c.next_token-word.ensures.kind; start_is = c.next_token-word.ensures.start; token_is = c.next_token-word.ensures.token; rest_is = c.next_token-word.ensures.rest; forward = c.next_token-word.ensures.forward; within = c.next_token-word.ensures.within }) Query c.in-Query.is tt

pub read_named-requires-clause-reading : goal.read_named-requires-clause-reading
read_named-requires-clause-reading c = c.requires.reading

pub read_named-requires-clause-word : goal.read_named-requires-clause-word
read_named-requires-clause-word c = record { kind_is = c.next_token-word.ensures.kind; start_is = c.next_token-word.ensures.start; token_is = c.next_token-word.ensures.token; rest_is = c.next_token-word.ensures.rest; forward = c.next_token-word.ensures.forward; within = c.next_token-word.ensures.within }

pub read_named-requires-clause-game : goal.read_named-requires-clause-game
read_named-requires-clause-game c = c.in-Game.is

pub open_group-requires-clause-reading : goal.open_group-requires-clause-reading
open_group-requires-clause-reading c = c.requires.reading

pub open_group-requires-clause-word : goal.open_group-requires-clause-word
open_group-requires-clause-word c = record { kind_is = c.next_token-word.ensures.kind; start_is = c.next_token-word.ensures.start; token_is = c.next_token-word.ensures.token; rest_is = c.next_token-word.ensures.rest; forward = c.next_token-word.ensures.forward; within = c.next_token-word.ensures.within }

pub open_group-requires-clause-open : goal.open_group-requires-clause-open
open_group-requires-clause-open c = c.in-Open.is

pub returns-in-Game-clause-turn : goal.returns-in-Game-clause-turn
returns-in-Game-clause-turn c = c.read_named.ensures.turn

pub returns-in-Game-clause-refusal : goal.returns-in-Game-clause-refusal
returns-in-Game-clause-refusal c = c.read_named.ensures.refusal

pub returns-in-Game-clause-kept : goal.returns-in-Game-clause-kept
returns-in-Game-clause-kept c = c.read_named.ensures.kept

pub returns-in-Open-clause-turn : goal.returns-in-Open-clause-turn
returns-in-Open-clause-turn c = c.open_group.ensures.turn

pub returns-in-Open-clause-refusal : goal.returns-in-Open-clause-refusal
returns-in-Open-clause-refusal c = c.open_group.ensures.refusal
