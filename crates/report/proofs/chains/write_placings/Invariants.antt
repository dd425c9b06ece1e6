use Rattle.std.proofs.Common.{◌≡◌, ◌++◌, take, flat_map, string_bytes}
use Rattle.report.specs.Chains.{placing}
use Rattle.report.proofs.chains.write_placings.Given as goal

abbrev pub invariant-placing : goal.invariant-placing
invariant-placing l = string_bytes l.text ≡ string_bytes l.fn.text ++ flat_map (placing l.size.columns) (take l.point-index l.attack)
