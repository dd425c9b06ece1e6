use Rattle.sgf_go.specs.inner.Territory.{SealsBelow, marking}
use Rattle.sgf_go.proofs.territory.seal_board.Given as goal

abbrev pub invariant-loop-number : goal.invariant-loop-number
invariant-loop-number l = SealsBelow (marking l.marks) (marking l.edges) l.fn.board l.number l.board l.declared.items
