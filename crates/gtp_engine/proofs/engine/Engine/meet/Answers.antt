use Rattle.std.proofs.Common.{◌≡◌, ◌⊎◌, ◌∙◌, ap, inl, inr, refl, subst, sym, None}
use Rattle.std.proofs.lemmas.Result.{IfOk-weaker}
use Rattle.gtp_words.specs.Asking.{AsksNamed}
use Rattle.gtp_words.proofs.AskingLemmas.{asked_err, asked_none}
use Rattle.gtp_engine.specs.Asking.{AskedNames}
use Rattle.gtp_engine.specs.Session.{is_last}
use Rattle.gtp_engine.specs.Steps.{AskForTurn}
use Rattle.gtp_engine.specs.inner.Written.{IsMet}
use Rattle.gtp_engine.specs.inner.Viewed.{asked_of}
use Rattle.gtp_engine.proofs.AnswerLemmas.{met_misfit, met_unknown}
use Rattle.gtp_engine.proofs.engine.Engine.meet.Goals as goal

pub returns-in-Unknown-clause-met : goal.returns-in-Unknown-clause-met
returns-in-Unknown-clause-met g c =
    let files = g.H.Shelf.files c.args.shelf.now in let faults = g.H.Shelf.faults c.args.shelf.now in
    IfOk-weaker c.refusal.result _ _ (λ answer said. met_unknown files faults faults c.args.id.now (asked_of c.args.asked) c.args.self.now answer.reply (ap asked_of c.in-Unknown.is) said) c.refusal.ensures.reply

pub returns-in-Unknown-clause-quit : goal.returns-in-Unknown-clause-quit
returns-in-Unknown-clause-quit g c = IfOk-weaker c.refusal.result _ _ (λ answer goes_on. goes_on ∙ sym (ap (λ a. is_last (asked_of a)) c.in-Unknown.is)) c.refusal.ensures.quit

pub returns-in-Misfit-clause-met : goal.returns-in-Misfit-clause-met
returns-in-Misfit-clause-met g c =
    let files = g.H.Shelf.files c.args.shelf.now in let faults = g.H.Shelf.faults c.args.shelf.now in
    IfOk-weaker c.refusal-in-Misfit.result _ _ (λ answer said. met_misfit files faults faults c.args.id.now (asked_of c.args.asked) c.args.self.now answer.reply (ap asked_of c.in-Misfit.is) said) c.refusal-in-Misfit.ensures.reply

pub returns-in-Misfit-clause-quit : goal.returns-in-Misfit-clause-quit
returns-in-Misfit-clause-quit g c = IfOk-weaker c.refusal-in-Misfit.result _ _ (λ answer goes_on. goes_on ∙ sym (ap (λ a. is_last (asked_of a)) c.in-Misfit.is)) c.refusal-in-Misfit.ensures.quit

pub returns-in_ok-reply-in-Something-clause-met : goal.returns-in_ok-reply-in-Something-clause-met
returns-in_ok-reply-in-Something-clause-met g c =
    subst (λ x. IsMet (g.H.Shelf.files c.args.shelf.now) (g.H.Shelf.faults c.args.shelf.now) (g.H.Shelf.faults c.obey.new.shelf) c.args.id.now x c.args.self.now c.in_ok-reply-in-Something.reply c.obey.new.self)
    (sym (ap asked_of c.in-Something.is)) c.in_ok-reply-in-Something.ensures.obeyed

pub returns-in-Unknown-clause-asked : goal.returns-in-Unknown-clause-asked
returns-in-Unknown-clause-asked g c =
    asked_none g.H.Shelf.asks (AskedNames (asked_of c.args.asked)) c.args.shelf.now c.refusal.result (subst (λ a. AskedNames a None) (sym (ap asked_of c.in-Unknown.is)) refl)

pub returns-in-Misfit-clause-asked : goal.returns-in-Misfit-clause-asked
returns-in-Misfit-clause-asked g c =
    asked_none g.H.Shelf.asks (AskedNames (asked_of c.args.asked)) c.args.shelf.now c.refusal-in-Misfit.result (subst (λ a. AskedNames a None) (sym (ap asked_of c.in-Misfit.is)) refl)

pub returns-in_ok-reply-in-Something-clause-asked : goal.returns-in_ok-reply-in-Something-clause-asked
returns-in_ok-reply-in-Something-clause-asked g c =
    subst (λ a. AsksNamed g.H.Shelf.asks (AskedNames a) c.args.shelf.now c.obey.new.shelf) (sym (ap asked_of c.in-Something.is)) c.in_ok-reply-in-Something.ensures.asked

pub returns-in_err-reply-in-Something-clause-asked : goal.returns-in_err-reply-in-Something-clause-asked
returns-in_err-reply-in-Something-clause-asked g c =
    let s = c.args.shelf.now in let t = c.obey.new.shelf in
    asked_err g.H.Shelf.asks (AskedNames (asked_of c.args.asked)) s c.from_residual.result t c.from_residual.ensures.0
    (subst (λ a. (t ≡ s) ⊎ AsksNamed g.H.Shelf.asks (AskedNames a) s t) (sym (ap asked_of c.in-Something.is)) c.in_err-reply-in-Something.ensures.asked)

pub returns-in_ok-reply-in-Something-clause-steps : goal.returns-in_ok-reply-in-Something-clause-steps
returns-in_ok-reply-in-Something-clause-steps g c =
    elim c.obey.ensures.steps [ inl none ↦ inl none | inr opens ↦ inr (subst AskForTurn (sym (ap asked_of c.in-Something.is)) opens.0, opens.1) ]

pub returns-in_err-reply-in-Something-clause-steps : goal.returns-in_err-reply-in-Something-clause-steps
returns-in_err-reply-in-Something-clause-steps g c =
    elim c.obey.ensures.steps [ inl none ↦ inl none | inr opens ↦ inr (subst AskForTurn (sym (ap asked_of c.in-Something.is)) opens.0, opens.1) ]
