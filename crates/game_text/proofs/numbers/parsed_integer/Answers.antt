use Rattle.std.proofs.Common.{suc, refl, ◌∙◌}
use Rattle.std.proofs.lemmas.List.{take_rest}
use Rattle.game_text.proofs.ParsingLaws.{not-none, some-is, sign-is, negative-is, size-of-negative}
use Rattle.game_text.proofs.numbers.parsed_integer.Goals as goal

pub returns-in_err-parsed_size : goal.returns-in_err-parsed_size
returns-in_err-parsed_size c n h e = absurd (let r = c.if-is_negative.ensures.0 refl in let s = sign-is n c.args.text.now h e r.0 r.1 in not-none _ c.parsed_size.result (c.parsed_size.ensures (suc s.0) (size-of-negative n s.0 s.1 h) (take_rest c.args.text.now 1 ∙ s.2)) c.in_err-parsed_size.was)

pub returns-then-is_negative : goal.returns-then-is_negative
returns-then-is_negative c n h e =
    let r = c.if-is_negative.ensures.0 refl in
    let s = sign-is n c.args.text.now h e r.0 r.1 in
    negative-is n c.in_ok-parsed_size.field-0 s.0 c.checked_neg.result s.1 h (some-is _ _ c.parsed_size.result c.in_ok-parsed_size.was (c.parsed_size.ensures (suc s.0) (size-of-negative n s.0 s.1 h) (take_rest c.args.text.now 1 ∙ s.2))) c.checked_neg.ensures
