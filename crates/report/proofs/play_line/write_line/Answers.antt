use Rattle.std.proofs.Common.{◌∙◌, ◌++◌, ap, string_bytes}
use Rattle.fault_words.specs.Naming.{name_by}
use Rattle.report.specs.Analysis.{stones_line}
use Rattle.report.proofs.play_line.write_line.Goals as goal

pub returns : goal.returns
returns c =
    let first = c.side-first.ensures ∙ ap (λ s. s.side) c.whole.ensures in
    let board = c.board.ensures ∙ ap (λ s. s.board) c.whole-2.ensures in
    let columns = c.size-size.ensures.columns ∙ ap (λ g. g.columns) board in
    let rows = c.size-size.ensures.rows ∙ ap (λ g. g.rows) board in
    record {
      stones = c.in_ok-stones.stones.items;
      line = c.in_ok-stones.ensures.line;
      text = c.in_ok-write_stones_line.ensures
          ∙ (λ i. string_bytes c.args.text.now ++ stones_line (name_by c.args.naming (columns i) (rows i)) (first i) (c.deref.ensures.value i));
    }
