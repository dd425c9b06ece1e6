use Rattle.std.proofs.Common.{◌≡◌, ◌++◌, take, flat_map, string_bytes}
use Rattle.game_lines.specs.Pictures.{break_point}
use Rattle.game_lines.proofs.picture.write_breaks.Given as goal

abbrev pub invariant-writing : goal.invariant-writing
invariant-writing l = string_bytes l.text ≡ string_bytes l.fn.text ++ flat_map break_point (take l.point-index l.wall)
