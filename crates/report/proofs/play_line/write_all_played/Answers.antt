use Rattle.std.proofs.Common.{◌∙◌, ◌++◌, ap, arith, string_bytes}
use Rattle.std.proofs.lemmas.List.{get_or_read}
use Rattle.fault_words.specs.Naming.{name_by}
use Rattle.report.specs.Analysis.{all_played, played}
use Rattle.report.proofs.AnalysisLaws.{played_end, played_more}
use Rattle.report.proofs.play_line.write_all_played.Goals as goal

pub writing-preserved : goal.writing-preserved
writing-preserved c =
    played_more (name_by c.args.naming c.args.size.columns c.args.size.rows) c.args.stones.now c.writing.point-index c.writing.colour c.other-colour.result
    (string_bytes c.args.text.now ++ all_played (name_by c.args.naming c.args.size.columns c.args.size.rows) c.args.first c.args.stones.now) (string_bytes c.writing.text)
    (string_bytes c.write_played.new.text) (omega (arith, c.writing-test.true)) c.other-colour.ensures
    (c.in_ok-write_played.ensures ∙ ap (λ p. string_bytes c.writing.text ++ played (name_by c.args.naming c.args.size.columns c.args.size.rows) c.writing.colour p)
    (get_or_read c.args.stones.now c.writing.point-index c.point-item.result c.writing-test.true c.point-item.is 0)) c.writing.invariant

pub returns : goal.returns
returns c =
    played_end (name_by c.args.naming c.args.size.columns c.args.size.rows) c.args.stones.now c.writing.point-index c.writing.colour
    (string_bytes c.args.text.now ++ all_played (name_by c.args.naming c.args.size.columns c.args.size.rows) c.args.first c.args.stones.now) (string_bytes c.writing.text)
    (omega (arith, c.writing-test.false)) c.writing.invariant
