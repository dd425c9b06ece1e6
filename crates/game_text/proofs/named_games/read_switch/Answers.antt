use Rattle.std.proofs.Common.{arith, refl, sym}
use Rattle.std.proofs.lemmas.Bool.{true≢false}
use Rattle.std.proofs.lemmas.Result.{err_from_is_err_and}
use Rattle.game_text.specs.Reading.{ReadsSwitch}
use Rattle.game_text.specs.inner.Machine.{IsRefusedBy}
use Rattle.game_text.proofs.ReadingExitLaws.{read-passed_on, at-none, at-some}
use Rattle.game_text.proofs.NameReadingLaws.{cut-plus, stray-plus, bad-plus, above-plus, switch-plus, taken-refused}
use Rattle.game_text.proofs.named_games.read_switch.Goals as goal

pub returns-then-start-text-clause-refusal : goal.returns-then-start-text-clause-refusal
returns-then-start-text-clause-refusal c = cut-plus c.args.text.now c.args.start c.if-start-text.true

pub returns-then-not-is_number_byte-clause-refusal : goal.returns-then-not-is_number_byte-clause-refusal
returns-then-not-is_number_byte-clause-refusal c = (refl, stray-plus c.args.text.now c.args.start (omega (arith, c.if-start-text.false)) (λ b. true≢false (sym (c.if-not-is_number_byte.ensures.1 b))))

pub returns-in_default-clause-refusal : goal.returns-in_default-clause-refusal
returns-in_default-clause-refusal c = (refl, bad-plus c.args.text.now c.args.start (omega (arith, c.if-start-text.false)) c.run_end-end.result c.run_end-end.ensures (c.if-not-is_number_byte.ensures.0 refl) (λ u t k. at-none c.in_ok-x.field-0 _ _ c.in_default.is c.in_ok-x.ensures u t))

pub returns-then-not-is_negative-clause-refusal : goal.returns-then-not-is_negative-clause-refusal
returns-then-not-is_negative-clause-refusal c = (refl, above-plus c.args.text.now c.args.start (omega (arith, c.if-start-text.false)) c.run_end-end.result c.run_end-end.ensures (c.if-not-is_number_byte.ensures.0 refl) c.in-Some.x (at-some c.in_ok-x.field-0 c.in-Some.x _ _ c.in-Some.is c.in_ok-x.ensures) (λ k. true≢false (sym (c.if-not-is_negative.ensures.1 k))))

pub returns-in_err-id-clause-refusal : goal.returns-in_err-id-clause-refusal
returns-in_err-id-clause-refusal c = read-passed_on c.from_residual-in_err-id.result _ (IsRefusedBy ReadsSwitch c.args.parts_limit c.args.text.now c.args.start) (err_from_is_err_and c.from_residual-in_err-id.result c.from_residual-in_err-id.ensures.1)
    (taken-refused ReadsSwitch c.args.parts_limit c.args.text.now c.args.start _ _ (switch-plus c.args.text.now c.args.start (omega (arith, c.if-start-text.false)) c.run_end-end.result c.run_end-end.ensures (c.if-not-is_number_byte.ensures.0 refl) c.in-Some.x (at-some c.in_ok-x.field-0 c.in-Some.x _ _ c.in-Some.is c.in_ok-x.ensures) (c.if-not-is_negative.ensures.0 refl)) _ c.in_err-id.ensures.refusal)

pub returns-clause-found : goal.returns-clause-found
returns-clause-found c = (_, switch-plus c.args.text.now c.args.start (omega (arith, c.if-start-text.false)) c.run_end-end.result c.run_end-end.ensures (c.if-not-is_number_byte.ensures.0 refl) c.in-Some.x (at-some c.in_ok-x.field-0 c.in-Some.x _ _ c.in-Some.is c.in_ok-x.ensures) (c.if-not-is_negative.ensures.0 refl), c.in_ok-id.ensures.taken, c.run_end-end.ensures.forward, c.run_end-end.ensures.within)

pub returns-clause-kept : goal.returns-clause-kept
returns-clause-kept c = c.taken_switch.ensures.kept

pub returns-in_err-id-clause-kept : goal.returns-in_err-id-clause-kept
returns-in_err-id-clause-kept c = c.taken_switch.ensures.kept
