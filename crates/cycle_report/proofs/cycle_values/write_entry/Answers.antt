use Rattle.std.proofs.Common.{refl}
use Rattle.report.specs.Solution.{solved_line}
use Rattle.report.proofs.ValuesLaws.{entry_is}
use Rattle.cycle_report.proofs.cycle_values.write_entry.Goals as goal

pub returns-clause-entry : goal.returns-clause-entry
returns-clause-entry c =
    let r = c.args.report in
    let both = c.in_ok-write_values.ensures.lines in
    record {
      said = both.said;
      are = both.are;
      text = entry_is _ _ _ _ (solved_line c.args.size.columns r.lowest r.points r.positions) _ both.said
          c.in_ok-add_region.ensures refl both.text refl;
    }
