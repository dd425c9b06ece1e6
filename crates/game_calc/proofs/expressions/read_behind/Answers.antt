use Rattle.std.proofs.Common.{sym, ◌∙◌, ap, arith}
use Rattle.game_calc.specs.Expression.{sign_of}
use Rattle.game_calc.specs.declared.amounts.Sign.TheVariants as sign
use Rattle.game_calc.specs.declared.tokens.Kind.TheVariants.{Plus, Minus}
use Rattle.game_calc.proofs.LineSteps.{term-behind}
use Rattle.game_calc.proofs.BehindSteps.{sign-turn, open-stray, game-stray}
use Rattle.game_calc.proofs.TurnSteps.{stray-told, not-end}
use Rattle.game_calc.proofs.expressions.read_behind.Goals as goal

pub returns-in-Plus-clause-turn : goal.returns-in-Plus-clause-turn
returns-in-Plus-clause-turn c = (
  sign-turn c.args.source.now.pass c.args.store.now c.args.source.now.parts_limit c.args.source.now.text.now c.args.at c.args.amount c.args.pending.now.opens.items c.args.pending.now.first (term-behind _ _ _ _ _ _ _ _ c.requires.reading) c.next_token-word.result sign.Plus
      (record { kind_is = c.next_token-word.ensures.kind; start_is = c.next_token-word.ensures.start; token_is = c.next_token-word.ensures.token; rest_is = c.next_token-word.ensures.rest; forward = c.next_token-word.ensures.forward; within = c.next_token-word.ensures.within }) (ap sign_of c.in-Plus.is),
  omega (arith, c.next_token-word.ensures.some (not-end Plus c.next_token-word.result.kind c.in-Plus.is tt), c.next_token-word.ensures.forward.0),
)

pub returns-in-Minus-clause-turn : goal.returns-in-Minus-clause-turn
returns-in-Minus-clause-turn c = (
  sign-turn c.args.source.now.pass c.args.store.now c.args.source.now.parts_limit c.args.source.now.text.now c.args.at c.args.amount c.args.pending.now.opens.items c.args.pending.now.first (term-behind _ _ _ _ _ _ _ _ c.requires.reading) c.next_token-word.result sign.Minus
      (record { kind_is = c.next_token-word.ensures.kind; start_is = c.next_token-word.ensures.start; token_is = c.next_token-word.ensures.token; rest_is = c.next_token-word.ensures.rest; forward = c.next_token-word.ensures.forward; within = c.next_token-word.ensures.within }) (ap sign_of c.in-Minus.is),
  omega (arith, c.next_token-word.ensures.some (not-end Minus c.next_token-word.result.kind c.in-Minus.is tt), c.next_token-word.ensures.forward.0),
)

pub returns-in-Open-clause-refusal : goal.returns-in-Open-clause-refusal
returns-in-Open-clause-refusal c = stray-told c.args.source.now.parts_limit c.args.source.now.text.now c.args.at c.next_token-word.result
    (record { kind_is = c.next_token-word.ensures.kind; start_is = c.next_token-word.ensures.start; token_is = c.next_token-word.ensures.token; rest_is = c.next_token-word.ensures.rest; forward = c.next_token-word.ensures.forward; within = c.next_token-word.ensures.within })
    (open-stray c.args.source.now.pass c.args.store.now c.args.source.now.parts_limit c.args.source.now.text.now c.args.at c.args.amount c.args.pending.now.opens.items c.args.pending.now.first (term-behind _ _ _ _ _ _ _ _ c.requires.reading) (sym c.next_token-word.ensures.kind ∙ c.in-Open.is))

pub returns-in-Game-clause-refusal : goal.returns-in-Game-clause-refusal
returns-in-Game-clause-refusal c = stray-told c.args.source.now.parts_limit c.args.source.now.text.now c.args.at c.next_token-word.result
    (record { kind_is = c.next_token-word.ensures.kind; start_is = c.next_token-word.ensures.start; token_is = c.next_token-word.ensures.token; rest_is = c.next_token-word.ensures.rest; forward = c.next_token-word.ensures.forward; within = c.next_token-word.ensures.within })
    (game-stray c.args.source.now.pass c.args.store.now c.args.source.now.parts_limit c.args.source.now.text.now c.args.at c.args.amount c.args.pending.now.opens.items c.args.pending.now.first (term-behind _ _ _ _ _ _ _ _ c.requires.reading) (sym c.next_token-word.ensures.kind ∙ c.in-Game.is))

pub close_group-requires-clause-reading : goal.close_group-requires-clause-reading
close_group-requires-clause-reading c = c.requires.reading

pub close_group-requires-clause-word : goal.close_group-requires-clause-word
close_group-requires-clause-word c = record { kind_is = c.next_token-word.ensures.kind; start_is = c.next_token-word.ensures.start; token_is = c.next_token-word.ensures.token; rest_is = c.next_token-word.ensures.rest; forward = c.next_token-word.ensures.forward; within = c.next_token-word.ensures.within }

pub close_group-requires-clause-close : goal.close_group-requires-clause-close
close_group-requires-clause-close c = c.in-Close.is

pub second_sum-requires-clause-reading : goal.second_sum-requires-clause-reading
second_sum-requires-clause-reading c = c.requires.reading

pub second_sum-requires-clause-word : goal.second_sum-requires-clause-word
second_sum-requires-clause-word c = record { kind_is = c.next_token-word.ensures.kind; start_is = c.next_token-word.ensures.start; token_is = c.next_token-word.ensures.token; rest_is = c.next_token-word.ensures.rest; forward = c.next_token-word.ensures.forward; within = c.next_token-word.ensures.within }

pub second_sum-requires-clause-query : goal.second_sum-requires-clause-query
second_sum-requires-clause-query c = c.in-Query.is

pub whole-requires-clause-reading : goal.whole-requires-clause-reading
whole-requires-clause-reading c = c.requires.reading

pub whole-requires-clause-end : goal.whole-requires-clause-end
whole-requires-clause-end c = sym c.next_token-word.ensures.kind ∙ c.in-End.is

pub returns-in-Close-clause-turn : goal.returns-in-Close-clause-turn
returns-in-Close-clause-turn c = c.close_group.ensures.turn

pub returns-in-Close-clause-refusal : goal.returns-in-Close-clause-refusal
returns-in-Close-clause-refusal c = c.close_group.ensures.refusal

pub returns-in-Close-clause-kept : goal.returns-in-Close-clause-kept
returns-in-Close-clause-kept c = c.close_group.ensures.kept

pub returns-in-Query-clause-turn : goal.returns-in-Query-clause-turn
returns-in-Query-clause-turn c = c.second_sum.ensures.turn

pub returns-in-Query-clause-refusal : goal.returns-in-Query-clause-refusal
returns-in-Query-clause-refusal c = c.second_sum.ensures.refusal

pub returns-in-End-clause-turn : goal.returns-in-End-clause-turn
returns-in-End-clause-turn c = c.whole.ensures.turn

pub returns-in-End-clause-refusal : goal.returns-in-End-clause-refusal
returns-in-End-clause-refusal c = c.whole.ensures.refusal
