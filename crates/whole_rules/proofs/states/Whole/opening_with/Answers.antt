use Rattle.std.proofs.Common.{subst, sym}
use Rattle.whole_rules.specs.Opening.{MayTax}
use Rattle.whole_rules.proofs.states.Whole.opening_with.Goals as goal

pub open_with-requires-clause-taxed : goal.open_with-requires-clause-taxed
open_with-requires-clause-taxed c = subst (MayTax c.args.tax) (sym c.board.ensures.board) c.requires.taxed
