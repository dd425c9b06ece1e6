use Rattle.std.proofs.Common.{◌∙◌, ap, string_bytes, ◌++◌, codes}
use Rattle.report.specs.Solution.{count_line}
use Rattle.report.proofs.TrialLaws.{counts_are}
use Rattle.report.proofs.trial.write_counts.Goals as goal

pub returns : goal.returns
returns c =
    counts_are c.args.number c.args.solved.now.regions (string_bytes c.args.text.now) (string_bytes c.write_count.new.text) (string_bytes c.write_count-2.new.text)
    (string_bytes c.write_count-3.new.text) (string_bytes c.write_count-4.new.text) c.positions.result c.shapes.result c.positions.ensures c.shapes.ensures
    (c.in_ok-write_count.ensures ∙ ap (λ n. string_bytes c.args.text.now ++ count_line (codes "trial") n) c.from.ensures)
    (c.in_ok-write_count-2.ensures ∙ ap (λ n. string_bytes c.write_count.new.text ++ count_line (codes "regions") n) c.regions.ensures)
    c.in_ok-write_count-3.ensures c.in_ok-write_count-4.ensures
