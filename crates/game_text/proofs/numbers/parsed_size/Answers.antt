use Rattle.std.proofs.Common.{arith}
use Rattle.game_text.proofs.ParsingLaws.{decimal-utf8, utf8-fails, utf8-gives, parsed-is, not-none, some-is, size-is}
use Rattle.game_text.proofs.numbers.parsed_size.Goals as goal

pub returns-in_err-text : goal.returns-in_err-text
returns-in_err-text c n h e = absurd (utf8-fails c.from_utf8.result c.args.digits.now _ c.from_utf8.ensures.cases (decimal-utf8 n c.args.digits.now (omega (arith, h)) e) c.ok.result c.ok.ensures.value c.in_err-text.was)

pub returns-in_err-size : goal.returns-in_err-size
returns-in_err-size c n h e =
    let same = utf8-gives c.from_utf8.result c.args.digits.now _ c.from_utf8.ensures.cases (decimal-utf8 n c.args.digits.now (omega (arith, h)) e) c.ok.result c.in_ok-text.text c.ok.ensures.value c.in_ok-text.was in
    absurd (not-none n c.ok-2.result (parsed-is 128 n c.in_ok-text.text.now c.args.digits.now c.parse.result c.ok-2.result (omega (arith, h)) (omega (arith, h)) same e c.parse.ensures.value.0 c.ok-2.ensures.value) c.in_err-size.was)

pub returns : goal.returns
returns c n h e =
    let same = utf8-gives c.from_utf8.result c.args.digits.now _ c.from_utf8.ensures.cases (decimal-utf8 n c.args.digits.now (omega (arith, h)) e) c.ok.result c.in_ok-text.text c.ok.ensures.value c.in_ok-text.was in
    size-is c.in_ok-size.size n c.try_from.result c.ok-3.result (some-is c.in_ok-size.size n c.ok-2.result c.in_ok-size.was (parsed-is 128 n c.in_ok-text.text.now c.args.digits.now c.parse.result c.ok-2.result (omega (arith, h)) (omega (arith, h)) same e c.parse.ensures.value.0 c.ok-2.ensures.value)) h c.try_from.ensures c.ok-3.ensures.value
