use Rattle.std.proofs.Common.{sym}
use Rattle.sgf_tree.proofs.StartLemmas.{nothing_searched, passed_other, no_start}
use Rattle.sgf_tree.proofs.reader.find_start.Goals as goal

pub loop-at-init : goal.loop-at-init
loop-at-init c = nothing_searched c.args.bytes.now

pub loop-at-preserved : goal.loop-at-preserved
loop-at-preserved c = passed_other c.args.bytes.now c.loop-at.at c.loop-at.opened c.loop-at.invariant c.loop-at-test.true c.if-byte-eq40.false c.if-byte-eq59.false (sym c.if-is_white.ensures)

pub returns-clause-first : goal.returns-clause-first
returns-clause-first c = no_start c.args.bytes.now c.loop-at.at c.loop-at.opened c.loop-at.invariant c.loop-at-test.false
