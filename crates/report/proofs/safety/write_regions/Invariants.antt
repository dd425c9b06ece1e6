use Rattle.std.proofs.Common.{◌≡◌, ◌++◌, take, flat_map, string_bytes}
use Rattle.report.specs.Safety.{region_line}
use Rattle.report.proofs.safety.write_regions.Given as goal

abbrev pub invariant-writing : goal.invariant-writing
invariant-writing l = string_bytes l.text ≡ string_bytes l.fn.text ++ flat_map (region_line l.size.columns) (take l.region-index l.regions)
