use Rattle.desk_io.proofs.CopyLemmas.{Copied}
use Rattle.desk_io.proofs.file_shelf.append.Given as goal

abbrev pub invariant-loop : goal.invariant-loop
invariant-loop g l = Copied (g.S.Source.left l.fn.source) (g.S.Source.left l.source) l.limit l.left l.fn.out.items l.out.items
