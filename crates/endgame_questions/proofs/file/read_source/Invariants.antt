use Rattle.std.proofs.Common.{◌≡◌, ◌≤◌, ◌-◌, length}
use Rattle.std.specs.Io.KnownBytes.{prepend_known}
use Rattle.endgame_questions.specs.File.{most_of_file}
use Rattle.endgame_questions.proofs.file.read_source.Given as goal

abbrev pub invariant-loop-piece : goal.invariant-loop-piece
invariant-loop-piece g l = record {
  so_far : g.S.Source.left l.fn.lines ≡ prepend_known l.file.items (g.S.Source.left l.lines);
  later : g.S.Source.faults l.fn.lines ≤ g.S.Source.faults l.lines;
  within : length l.file.items ≤ most_of_file;
}

abbrev pub decreases-loop-piece : goal.decreases-loop-piece
decreases-loop-piece g l = most_of_file - length l.file.items
