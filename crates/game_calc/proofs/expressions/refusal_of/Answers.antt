use Rattle.std.proofs.Common.{refl, arith}
use Rattle.game_calc.proofs.TurnSteps.{byte-told, number-told, blank-told, end-told, other-told, refused-as}
use Rattle.game_text.specs.Reading.Fault.{too_deep, too_many_parts, past_bounds}
use Rattle.game_calc.proofs.expressions.refusal_of.Goals as goal

pub returns-then-word-source : goal.returns-then-word-source
returns-then-word-source c = λ at w k. blank-told c.args.source.now.parts_limit c.args.source.now.text.now at c.args.word w (refused-as _ _ _ _ c.in-CutShort.is c.requires.refusal) c.if-word-source.true

pub returns-else-word-source : goal.returns-else-word-source
returns-else-word-source c = λ at w k. end-told c.args.source.now.parts_limit c.args.source.now.text.now at c.args.word w (refused-as _ _ _ _ c.in-CutShort.is c.requires.refusal) (λ l. omega (arith, l, c.if-word-source.false))

pub returns-in-BadByte : goal.returns-in-BadByte
returns-in-BadByte c = λ at w k. byte-told c.args.source.now.parts_limit c.args.source.now.text.now at c.args.word w c.in-BadByte.place (refused-as _ _ _ _ c.in-BadByte.is c.requires.refusal)

pub returns-in-BadNumber : goal.returns-in-BadNumber
returns-in-BadNumber c = λ at w k. number-told c.args.source.now.parts_limit c.args.source.now.text.now at c.args.word w c.in-BadNumber.place (refused-as _ _ _ _ c.in-BadNumber.is c.requires.refusal)

pub returns-in-Deep : goal.returns-in-Deep
returns-in-Deep c = λ at w k. other-told c.args.source.now.parts_limit c.args.source.now.text.now at c.args.word w too_deep _ (refused-as _ _ _ _ c.in-Deep.is c.requires.refusal) refl

pub returns-in-Parts : goal.returns-in-Parts
returns-in-Parts c = λ at w k. other-told c.args.source.now.parts_limit c.args.source.now.text.now at c.args.word w too_many_parts _ (refused-as _ _ _ _ c.in-Parts.is c.requires.refusal) refl

pub returns-in-Bounds : goal.returns-in-Bounds
returns-in-Bounds c = λ at w k. other-told c.args.source.now.parts_limit c.args.source.now.text.now at c.args.word w past_bounds _ (refused-as _ _ _ _ c.in-Bounds.is c.requires.refusal) refl
