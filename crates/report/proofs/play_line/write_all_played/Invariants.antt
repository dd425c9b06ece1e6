use Rattle.std.proofs.Common.{◌≡◌, ◌++◌, drop, string_bytes}
use Rattle.fault_words.specs.Naming.{name_by}
use Rattle.report.specs.Analysis.{all_played}
use Rattle.report.proofs.play_line.write_all_played.Given as goal

abbrev pub invariant-writing : goal.invariant-writing
invariant-writing l = string_bytes l.fn.text ++ all_played (name_by l.fn.naming l.size.columns l.size.rows) l.fn.first l.stones
    ≡ string_bytes l.text ++ all_played (name_by l.fn.naming l.size.columns l.size.rows) l.colour (drop l.point-index l.stones)
