use Rattle.std.specs.Prelude.{codes, decimal, ◌++◌}
use Rattle.report.specs.Safety.{sized_line}
use Rattle.go_grid.specs.Name.{point_name}
use Rattle.report.proofs.TextLaws.{three_more}
use Rattle.report.proofs.safety.write_region.Goals as goal

pub returns : goal.returns
unfolding sized_line
returns c =
    three_more _ _ _ _ (codes "region ") (point_name c.args.size.columns c.args.lowest) (codes " points " ++ (decimal c.args.points ++ codes "\n"))
    c.in_ok-push_str.ensures.bytes c.in_ok-write_name.ensures c.in_ok-writeln.ensures.bytes
