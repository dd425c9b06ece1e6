use Rattle.std.proofs.Common.{◌∙◌, ◌++◌, ap}
use Rattle.short_games.specs.Tree.{tree_at}
use Rattle.game_text.specs.NamedText.{named_text}
use Rattle.game_lines.specs.Showings.{labelled_lines, picture}
use Rattle.cycle_report.proofs.CycleValuesLaws.{lines_of}
use Rattle.cycle_report.proofs.cycle_values.write_value.Goals as goal

pub returns-clause-lines : goal.returns-clause-lines
returns-clause-lines c =
    lines_of c.args.label.now (tree_at c.args.store.now c.args.value) c.in_ok-showing.showing c.args.text.now c.write_labelled.new.text
    c.in_ok-showing.ensures.shown c.in_ok-write_labelled.ensures
