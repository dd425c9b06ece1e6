use Rattle.std.proofs.Common.{arith}
use Rattle.go_grid.proofs.NameLemmas.{is_name, name_column, name_row}
use Rattle.go_grid.proofs.names.named.Goals as goal

pub returns-in_err-column : goal.returns-in_err-column
returns-in_err-column c =
    rw c.from_residual.ensures
    (λ p n. let w = name_column c.args.size.columns c.args.size.rows p c.args.letters.now (omega arith) n in c.in_err-column.ensures w.0 w.1 w.2)

pub returns-in_err-row : goal.returns-in_err-row
returns-in_err-row c =
    rw c.from_residual-in_err-row.ensures
    (λ p n. let w = name_row c.args.size.columns c.args.size.rows p c.args.letters.now (omega arith) n in c.in_err-row.ensures w.0 w.1 w.2)

pub returns : goal.returns
returns c = rw c.from.ensures
    (is_name c.args.size.columns c.args.size.rows _ _ c.args.letters.now c.told-letters c.in_ok-column.ensures.0 c.in_ok-row.ensures.0 c.in_ok-column.ensures.1
    c.in_ok-row.ensures.1)
