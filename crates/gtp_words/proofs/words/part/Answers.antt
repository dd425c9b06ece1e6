use Rattle.std.proofs.Common.{◌-◌, length, take, drop}
use Rattle.std.proofs.lemmas.List.{take_rest}
use Rattle.gtp_words.proofs.WordLemmas.{first_is}
use Rattle.gtp_words.proofs.words.part.Goals as goal

pub returns-clause-some : goal.returns-clause-some
returns-clause-some c =
    let text = c.args.text.now in let f = c.blanks_before.result in let e = c.word_length-len.result in
    let begun = take (length text - f) (drop f text) in let rest = take (length begun - e) (drop e begun) in
    first_is text begun rest f e (take_rest text f) (take_rest begun e) c.blanks_before.ensures.blanks c.word_length-len.ensures.within (λ z. c.if-len-eq0.false z)
    c.word_length-len.ensures.word c.word_length-len.ensures.next
