use Rattle.std.proofs.Common.{◌≡◌, ◌++◌, take, flat_map, string_bytes}
use Rattle.report.specs.Chains.{chain_lines}
use Rattle.report.proofs.chains.write_chains.Given as goal

abbrev pub invariant-writing : goal.invariant-writing
invariant-writing l = string_bytes l.text ≡ string_bytes l.fn.text ++ flat_map (chain_lines l.size.columns) (take l.line-index l.lines)
