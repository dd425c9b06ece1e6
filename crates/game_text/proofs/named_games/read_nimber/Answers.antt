use Rattle.std.proofs.lemmas.Result.{err_from_is_err_and}
use Rattle.game_text.specs.Reading.{ReadsNimber}
use Rattle.game_text.specs.inner.Machine.{IsRefusedBy}
use Rattle.game_text.proofs.ReadingExitLaws.{read-passed_on}
use Rattle.game_text.proofs.NameReadingLaws.{taken-refused}
use Rattle.game_text.proofs.named_games.read_nimber.Goals as goal

pub returns-in_err-number-clause-refusal : goal.returns-in_err-number-clause-refusal
returns-in_err-number-clause-refusal c = read-passed_on c.from_residual.result _ (IsRefusedBy ReadsNimber c.args.parts_limit c.args.text.now c.args.start) (err_from_is_err_and c.from_residual.result c.from_residual.ensures.1) (c.in_err-number.ensures.refusal c.args.parts_limit)

pub returns-in_err-id-clause-refusal : goal.returns-in_err-id-clause-refusal
returns-in_err-id-clause-refusal c = read-passed_on c.from_residual-in_err-id.result _ (IsRefusedBy ReadsNimber c.args.parts_limit c.args.text.now c.args.start) (err_from_is_err_and c.from_residual-in_err-id.result c.from_residual-in_err-id.ensures.1)
    (taken-refused ReadsNimber c.args.parts_limit c.args.text.now c.args.start _ _ c.in_ok-number.ensures.number _ c.in_err-id.ensures.refusal)

pub returns-clause-found : goal.returns-clause-found
returns-clause-found c = (_, c.in_ok-number.ensures.number, c.in_ok-id.ensures.taken, c.digits_end-end.ensures.forward, c.digits_end-end.ensures.within)

pub returns-clause-kept : goal.returns-clause-kept
returns-clause-kept c = c.taken_nimber.ensures.kept

pub returns-in_err-id-clause-kept : goal.returns-in_err-id-clause-kept
returns-in_err-id-clause-kept c = c.taken_nimber.ensures.kept
