use Rattle.game_text.proofs.DecimalLaws.{whole-written, part-written}
use Rattle.game_text.proofs.numbers.number_text.Goals as goal

pub returns-then-exponent-eq0 : goal.returns-then-exponent-eq0
returns-then-exponent-eq0 c = whole-written c.args.x c.numerator-numerator.result _ _ c.exponent-exponent.result _ _ c.numerator-numerator.ensures.1 c.exponent-exponent.ensures.lowest.1 (record { sfits = c.numerator-numerator.type_inv }) c.if-exponent-eq0.true c.new-text.ensures.bytes c.in_ok-write.ensures.bytes

pub returns : goal.returns
returns c = part-written c.args.x c.numerator-numerator.result _ _ c.exponent-exponent.result _ _ c.numerator-numerator.ensures.1 c.exponent-exponent.ensures.lowest.1 (record { sfits = c.numerator-numerator.type_inv }) c.if-exponent-eq0.false c.exponent-exponent.ensures.most c.new-text.ensures.bytes c.in_ok-write-2.ensures.bytes
