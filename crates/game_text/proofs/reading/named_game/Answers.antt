use Rattle.std.proofs.Common.{◌+◌, drop, refl}
use Rattle.std.specs.Prelude.{slice_index}
use Rattle.std.proofs.lemmas.Result.{err_from_is_err_and}
use Rattle.game_text.specs.NamedText.{up, down}
use Rattle.game_text.specs.Reading.{ReadsName, ReadsNimber, ReadsSwitch}
use Rattle.game_text.specs.Reading.ReadsName.{a_nimber, an_up, a_down, a_switch}
use Rattle.game_text.specs.inner.Machine.{IsRefusedBy}
use Rattle.game_text.proofs.ReadingExitLaws.{read-passed_on}
use Rattle.game_text.proofs.NameReadingLaws.{found-as, refused-as, taken-refused, last-name}
use Rattle.game_text.proofs.reading.named_game.Goals as goal

pub returns-then-byte-eq42-clause-found : goal.returns-then-byte-eq42-clause-found
returns-then-byte-eq42-clause-found c = found-as ReadsNimber (ReadsName (slice_index c.args.source.now.text.now c.args.at)) c.read_nimber.new.store c.args.source.now.parts_limit c.args.source.now.text.now (c.args.at + 1) c.read_nimber.result (λ o r. a_nimber c.if-byte-eq42.true r) c.read_nimber.ensures.found

pub returns-then-byte-eq42-clause-refusal : goal.returns-then-byte-eq42-clause-refusal
returns-then-byte-eq42-clause-refusal c = refused-as ReadsNimber (ReadsName (slice_index c.args.source.now.text.now c.args.at)) c.args.source.now.parts_limit c.args.source.now.text.now (c.args.at + 1) c.read_nimber.result (λ o r. a_nimber c.if-byte-eq42.true r) c.read_nimber.ensures.refusal

pub returns-then-byte-eq43-clause-found : goal.returns-then-byte-eq43-clause-found
returns-then-byte-eq43-clause-found c = found-as ReadsSwitch (ReadsName (slice_index c.args.source.now.text.now c.args.at)) c.read_switch.new.store c.args.source.now.parts_limit c.args.source.now.text.now (c.args.at + 1) c.read_switch.result (λ o r. a_switch c.if-byte-eq43.true r) c.read_switch.ensures.found

pub returns-then-byte-eq43-clause-refusal : goal.returns-then-byte-eq43-clause-refusal
returns-then-byte-eq43-clause-refusal c = refused-as ReadsSwitch (ReadsName (slice_index c.args.source.now.text.now c.args.at)) c.args.source.now.parts_limit c.args.source.now.text.now (c.args.at + 1) c.read_switch.result (λ o r. a_switch c.if-byte-eq43.true r) c.read_switch.ensures.refusal

pub returns-in_err-id-clause-refusal : goal.returns-in_err-id-clause-refusal
returns-in_err-id-clause-refusal c = read-passed_on c.from_residual.result _ (IsRefusedBy (ReadsName (slice_index c.args.source.now.text.now c.args.at)) c.args.source.now.parts_limit c.args.source.now.text.now (c.args.at + 1)) (err_from_is_err_and c.from_residual.result c.from_residual.ensures.1)
    (taken-refused (ReadsName (slice_index c.args.source.now.text.now c.args.at)) c.args.source.now.parts_limit c.args.source.now.text.now (c.args.at + 1) up (drop (c.args.at + 1) c.args.source.now.text.now) (an_up c.if-byte-eq94.true refl) _ c.in_err-id.ensures.refusal)

pub returns-in_err-id-2-clause-refusal : goal.returns-in_err-id-2-clause-refusal
returns-in_err-id-2-clause-refusal c = read-passed_on c.from_residual-in_err-id-2.result _ (IsRefusedBy (ReadsName (slice_index c.args.source.now.text.now c.args.at)) c.args.source.now.parts_limit c.args.source.now.text.now (c.args.at + 1)) (err_from_is_err_and c.from_residual-in_err-id-2.result c.from_residual-in_err-id-2.ensures.1)
    (taken-refused (ReadsName (slice_index c.args.source.now.text.now c.args.at)) c.args.source.now.parts_limit c.args.source.now.text.now (c.args.at + 1) down (drop (c.args.at + 1) c.args.source.now.text.now) (a_down (last-name _ c.requires.byte c.if-byte-eq42.false c.if-byte-eq43.false c.if-byte-eq94.false) refl) _ c.in_err-id-2.ensures.refusal)

pub returns-then-byte-eq42-clause-kept : goal.returns-then-byte-eq42-clause-kept
returns-then-byte-eq42-clause-kept c = c.read_nimber.ensures.kept

pub returns-then-byte-eq43-clause-kept : goal.returns-then-byte-eq43-clause-kept
returns-then-byte-eq43-clause-kept c = c.read_switch.ensures.kept

pub returns-in_err-id-clause-kept : goal.returns-in_err-id-clause-kept
returns-in_err-id-clause-kept c = c.taken_up.ensures.kept

pub returns-in_err-id-2-clause-kept : goal.returns-in_err-id-2-clause-kept
returns-in_err-id-2-clause-kept c = c.taken_down.ensures.kept

pub returns-then-byte-eq94-clause-kept : goal.returns-then-byte-eq94-clause-kept
returns-then-byte-eq94-clause-kept c = c.taken_up.ensures.kept

pub returns-clause-kept : goal.returns-clause-kept
returns-clause-kept c = c.taken_down.ensures.kept
