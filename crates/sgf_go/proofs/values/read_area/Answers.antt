use Rattle.std.proofs.Common.{sym, subst, arith}
use Rattle.std.specs.Option.{option_map}
use Rattle.sgf_go.specs.Values.{IsArea, Says}
use Rattle.sgf_go.specs.inner.Reading.{rectangle}
use Rattle.sgf_go.proofs.PointLemmas.{point_two, corners_five, no_point_two, no_first_five, no_second_five}
use Rattle.sgf_go.proofs.values.read_area.Goals as goal

pub returns-in_ok-point-in-len2-clause-value : goal.returns-in_ok-point-in-len2-clause-value
returns-in_ok-point-in-len2-clause-value c = subst (IsArea c.args.size.columns c.args.size.rows c.args.text.now) (sym c.between.ensures.value)
    (point_two c.args.size.columns c.args.size.rows c.args.text.now c.in_ok-point-in-len2.point (omega (arith, c.in-len2.len_at_least, c.in-len2.len_below)) (c.in_ok-point-in-len2.ensures {u = tt}).named)

pub returns-in_ok-second-in-58-clause-value : goal.returns-in_ok-second-in-58-clause-value
returns-in_ok-second-in-58-clause-value c = subst (IsArea c.args.size.columns c.args.size.rows c.args.text.now) (sym c.between-in-58.ensures.value)
    (corners_five c.args.size.columns c.args.size.rows c.args.text.now c.in_ok-first-in-58.first c.in_ok-second-in-58.second (omega (arith, c.in-58.len_at_least, c.in-58.len_below)) (cc)
    (c.in_ok-first-in-58.ensures {u = tt}).named (c.in_ok-second-in-58.ensures {u = tt}).named)

pub returns-in_err-point-in-len2-clause-value : goal.returns-in_err-point-in-len2-clause-value
returns-in_err-point-in-len2-clause-value c = subst (λ o. Says (IsArea c.args.size.columns c.args.size.rows c.args.text.now) (option_map rectangle o)) (sym c.from_residual.ensures)
    (no_point_two c.args.size.columns c.args.size.rows c.args.text.now (omega (arith, c.in-len2.len_at_least, c.in-len2.len_below)) (c.in_err-point-in-len2.ensures {u = tt}).named)

pub returns-in_err-first-in-58-clause-value : goal.returns-in_err-first-in-58-clause-value
returns-in_err-first-in-58-clause-value c = subst (λ o. Says (IsArea c.args.size.columns c.args.size.rows c.args.text.now) (option_map rectangle o)) (sym c.from_residual-in_err-first-in-58.ensures)
    (no_first_five c.args.size.columns c.args.size.rows c.args.text.now (omega (arith, c.in-58.len_at_least, c.in-58.len_below)) (cc) (c.in_err-first-in-58.ensures {u = tt}).named)

pub returns-in_err-second-in-58-clause-value : goal.returns-in_err-second-in-58-clause-value
returns-in_err-second-in-58-clause-value c = subst (λ o. Says (IsArea c.args.size.columns c.args.size.rows c.args.text.now) (option_map rectangle o)) (sym c.from_residual-in_err-second-in-58.ensures)
    (no_second_five c.args.size.columns c.args.size.rows c.args.text.now (omega (arith, c.in-58.len_at_least, c.in-58.len_below)) (cc) (c.in_err-second-in-58.ensures {u = tt}).named)
