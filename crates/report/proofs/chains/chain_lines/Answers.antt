use Rattle.std.proofs.Common.{arith, subst}
use Rattle.report.specs.Chains.{AreChainsBelow}
use Rattle.report.proofs.chains.chain_lines.Goals as goal

pub returns : goal.returns
returns c =
    subst (λ n. AreChainsBelow c.args.board.now n c.chains.lines.items)
    (omega (arith, c.chains-test.false, c.chains.auto.number-end, c.area-number-end.ensures.value, c.size.ensures.area)) c.chains.invariant
