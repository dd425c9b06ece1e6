use Rattle.std.proofs.Common.{◌+◌, refl, ◌∙◌}
use Rattle.std.proofs.lemmas.List.{take_rest}
use mir.Val.{to_z, of_z}
use mir.Syntax.{w128}
use Rattle.game_text.proofs.ParsingLaws.{not-none, some-is}
use Rattle.game_text.proofs.SpellingLaws.{part-spelled, whole-spelled, part-is, same-bits}
use Rattle.game_text.proofs.numbers.parsed.Goals as goal

pub returns-in_err-numerator-in-Some : goal.returns-in_err-numerator-in-Some
returns-in_err-numerator-in-Some c u t = absurd (let p = part-spelled u c.args.run.now c.in-Some.at t c.in-Some.ensures in not-none _ c.parsed_integer.result (c.parsed_integer.ensures p.numerator p.small p.first) c.in_err-numerator-in-Some.was)

pub returns-in_err-exponent-in-Some : goal.returns-in_err-exponent-in-Some
returns-in_err-exponent-in-Some c u t = absurd (let p = part-spelled u c.args.run.now c.in-Some.at t c.in-Some.ensures in not-none _ c.parsed_exponent.result (c.parsed_exponent.ensures p.exponent p.most (take_rest c.args.run.now (c.in-Some.at + 1) ∙ p.second)) c.in_err-exponent-in-Some.was)

pub returns-in_err-parsed_integer-in-None : goal.returns-in_err-parsed_integer-in-None
returns-in_err-parsed_integer-in-None c u t = absurd (let p = whole-spelled u c.args.run.now t c.in-None.ensures in not-none _ c.parsed_integer-in-None.result (c.parsed_integer-in-None.ensures p.numerator p.small p.is) c.in_err-parsed_integer-in-None.was)

pub returns-in_ok-exponent-in-Some : goal.returns-in_ok-exponent-in-Some
returns-in_ok-exponent-in-Some c u t =
    let p = part-spelled u c.args.run.now c.in-Some.at t c.in-Some.ensures in
    part-is u p.numerator (to_z w128 (of_z w128 c.in_ok-numerator-in-Some.numerator)) p.exponent c.in_ok-exponent-in-Some.exponent c.part.result t.0 p.lowest.fraction
    (same-bits _ p.numerator (some-is _ _ c.parsed_integer.result c.in_ok-numerator-in-Some.was (c.parsed_integer.ensures p.numerator p.small p.first)) p.small)
    (some-is _ _ c.parsed_exponent.result c.in_ok-exponent-in-Some.was (c.parsed_exponent.ensures p.exponent p.most (take_rest c.args.run.now (c.in-Some.at + 1) ∙ p.second)))
    c.part.ensures

pub returns-in_ok-parsed_integer-in-None : goal.returns-in_ok-parsed_integer-in-None
returns-in_ok-parsed_integer-in-None c u t =
    let p = whole-spelled u c.args.run.now t c.in-None.ensures in
    part-is u p.numerator (to_z w128 (of_z w128 c.in_ok-parsed_integer-in-None.field-0)) 0 0 c.part-in-None.result t.0 p.lowest.fraction
    (same-bits _ p.numerator (some-is _ _ c.parsed_integer-in-None.result c.in_ok-parsed_integer-in-None.was (c.parsed_integer-in-None.ensures p.numerator p.small p.is)) p.small) refl c.part-in-None.ensures
