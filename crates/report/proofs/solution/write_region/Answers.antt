use Rattle.std.specs.Prelude.{codes, decimal, ◌++◌}
use Rattle.report.specs.Solution.{solved_line}
use Rattle.go_grid.specs.Name.{point_name}
use Rattle.report.proofs.TextLaws.{three_more}
use Rattle.report.proofs.solution.write_region.Goals as goal

pub returns : goal.returns
unfolding solved_line
returns c =
    three_more _ _ _ _ (codes "region ") (point_name c.args.size.columns c.args.lowest)
    (codes " points " ++ (decimal c.args.points ++ (codes " positions " ++ (decimal c.args.positions ++ codes "\n"))))
    c.in_ok-push_str.ensures.bytes c.in_ok-write_name.ensures c.in_ok-writeln.ensures.bytes
