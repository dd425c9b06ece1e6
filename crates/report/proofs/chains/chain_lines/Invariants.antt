use Rattle.report.specs.Chains.{AreChainsBelow}
use Rattle.report.proofs.chains.chain_lines.Given as goal

abbrev pub invariant-chains : goal.invariant-chains
invariant-chains l = AreChainsBelow l.board l.number l.lines.items
