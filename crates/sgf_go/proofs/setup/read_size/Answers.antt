use Rattle.std.proofs.Common.{sym, subst, None}
use Rattle.std.specs.Option.{option_map}
use Rattle.sgf_go.specs.Reading.{extent}
use Rattle.sgf_go.specs.Values.{Says, IsSide, IsSize}
use Rattle.sgf_go.proofs.SizeLemmas.{no_rows}
use Rattle.sgf_go.proofs.setup.read_size.Goals as goal

pub returns-in_err-rows-in-Some : goal.returns-in_err-rows-in-Some
returns-in_err-rows-in-Some c =
    let found = c.in-Some.ensures.found in
    subst (λ o. Says (IsSize c.args.text.now) (option_map extent o)) (sym c.from_residual-in_err-rows-in-Some.ensures)
    (no_rows c.args.text.now c.in-Some.at found.0 found.1 found.2 (subst (λ t. Says (IsSide t) None) c.rest_of.ensures (c.in_err-rows-in-Some.ensures {u = tt}).value))
