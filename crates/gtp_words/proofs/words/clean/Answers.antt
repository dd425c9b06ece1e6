use Rattle.std.proofs.Common.{arith, rules}
use Rattle.gtp_words.proofs.CleanLineLemmas.{cleaned_all, cleaned_more}
use Rattle.gtp_words.proofs.words.clean.Goals as goal

pub cleaning-preserved : goal.cleaning-preserved
cleaning-preserved c =
    cleaned_more c.args.line.now c.cleaning.text.items c.keep.new.text.items c.cleaning.at c.cleaning-test.true (search rules) c.cleaning.invariant (search rules)

pub returns : goal.returns
returns c = cleaned_all c.args.line.now c.cleaning.text.items c.cleaning.at (omega (arith, c.cleaning-test.false)) c.cleaning.invariant
