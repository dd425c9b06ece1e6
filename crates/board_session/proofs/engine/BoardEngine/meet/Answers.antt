use Rattle.std.proofs.Common.{◌≡◌, ◌⊎◌, ap, inl, inr, refl, subst, sym, None}
use Rattle.gtp_words.specs.Asking.{AsksNamed}
use Rattle.gtp_words.proofs.AskingLemmas.{asked_err}
use Rattle.board_session.specs.Asking.{AskedNames}
use Rattle.board_session.specs.Steps.{AskToSolve}
use Rattle.board_session.specs.inner.Obeying.{IsMet}
use Rattle.board_orders.specs.Viewed.{asked_of}
use Rattle.board_session.proofs.AnswerLemmas.{met_misfit, met_unknown}
use Rattle.board_session.proofs.engine.BoardEngine.meet.Goals as goal

pub returns-in_ok-reply-in-Unknown-clause-met : goal.returns-in_ok-reply-in-Unknown-clause-met
returns-in_ok-reply-in-Unknown-clause-met g c =
    let files = g.H.Shelf.files c.args.shelf.now in let faults = g.H.Shelf.faults c.args.shelf.now in
    met_unknown files faults c.args.id.now (asked_of c.args.asked) c.args.self.now c.in_ok-reply-in-Unknown.reply (ap asked_of c.in-Unknown.is) c.in_ok-reply-in-Unknown.ensures

pub returns-in_ok-reply-in-Misfit-clause-met : goal.returns-in_ok-reply-in-Misfit-clause-met
returns-in_ok-reply-in-Misfit-clause-met g c =
    let files = g.H.Shelf.files c.args.shelf.now in let faults = g.H.Shelf.faults c.args.shelf.now in
    met_misfit files faults c.args.id.now (asked_of c.args.asked) c.args.self.now c.in_ok-reply-in-Misfit.reply (ap asked_of c.in-Misfit.is) c.in_ok-reply-in-Misfit.ensures

pub returns-in_ok-reply-in-Something-clause-same_files : goal.returns-in_ok-reply-in-Something-clause-same_files
returns-in_ok-reply-in-Something-clause-same_files g c = c.obey.ensures.same_files

pub returns-in_ok-reply-in-Something-clause-later : goal.returns-in_ok-reply-in-Something-clause-later
returns-in_ok-reply-in-Something-clause-later g c = c.obey.ensures.later

pub returns-in_ok-reply-in-Something-clause-steps : goal.returns-in_ok-reply-in-Something-clause-steps
returns-in_ok-reply-in-Something-clause-steps g c =
    elim c.obey.ensures.steps [ inl none ↦ inl none | inr solves ↦ inr (subst AskToSolve (sym (ap asked_of c.in-Something.is)) solves.0, solves.1) ]

pub returns-in_err-reply-in-Something-clause-same_files : goal.returns-in_err-reply-in-Something-clause-same_files
returns-in_err-reply-in-Something-clause-same_files g c = c.obey.ensures.same_files

pub returns-in_err-reply-in-Something-clause-later : goal.returns-in_err-reply-in-Something-clause-later
returns-in_err-reply-in-Something-clause-later g c = c.obey.ensures.later

pub returns-in_err-reply-in-Something-clause-steps : goal.returns-in_err-reply-in-Something-clause-steps
returns-in_err-reply-in-Something-clause-steps g c =
    elim c.obey.ensures.steps [ inl none ↦ inl none | inr solves ↦ inr (subst AskToSolve (sym (ap asked_of c.in-Something.is)) solves.0, solves.1) ]

pub returns-in_ok-reply-in-Something-clause-met : goal.returns-in_ok-reply-in-Something-clause-met
returns-in_ok-reply-in-Something-clause-met g c =
    let files = g.H.Shelf.files c.args.shelf.now in let before = g.H.Shelf.faults c.args.shelf.now in let now = g.H.Shelf.faults c.obey.new.shelf in
    subst (λ a. IsMet files before now c.args.id.now a c.args.self.now c.in_ok-reply-in-Something.reply c.obey.new.self) (sym (ap asked_of c.in-Something.is)) c.in_ok-reply-in-Something.ensures.obeyed

pub returns-in_ok-reply-in-Unknown-clause-asked : goal.returns-in_ok-reply-in-Unknown-clause-asked
returns-in_ok-reply-in-Unknown-clause-asked g c = (None, subst (λ a. AskedNames a None) (sym (ap asked_of c.in-Unknown.is)) refl, refl)

pub returns-in_err-reply-in-Unknown-clause-asked : goal.returns-in_err-reply-in-Unknown-clause-asked
returns-in_err-reply-in-Unknown-clause-asked g c =
    asked_err g.H.Shelf.asks (AskedNames (asked_of c.args.asked)) c.args.shelf.now c.from_residual-in_err-reply-in-Unknown.result c.args.shelf.now c.from_residual-in_err-reply-in-Unknown.ensures.0 (inl refl)

pub returns-in_ok-reply-in-Misfit-clause-asked : goal.returns-in_ok-reply-in-Misfit-clause-asked
returns-in_ok-reply-in-Misfit-clause-asked g c = (None, subst (λ a. AskedNames a None) (sym (ap asked_of c.in-Misfit.is)) refl, refl)

pub returns-in_err-reply-in-Misfit-clause-asked : goal.returns-in_err-reply-in-Misfit-clause-asked
returns-in_err-reply-in-Misfit-clause-asked g c =
    asked_err g.H.Shelf.asks (AskedNames (asked_of c.args.asked)) c.args.shelf.now c.from_residual-in_err-reply-in-Misfit.result c.args.shelf.now c.from_residual-in_err-reply-in-Misfit.ensures.0 (inl refl)

pub returns-in_ok-reply-in-Something-clause-asked : goal.returns-in_ok-reply-in-Something-clause-asked
returns-in_ok-reply-in-Something-clause-asked g c =
    subst (λ a. AsksNamed g.H.Shelf.asks (AskedNames a) c.args.shelf.now c.obey.new.shelf) (sym (ap asked_of c.in-Something.is)) c.in_ok-reply-in-Something.ensures.asked

pub returns-in_err-reply-in-Something-clause-asked : goal.returns-in_err-reply-in-Something-clause-asked
returns-in_err-reply-in-Something-clause-asked g c =
    let s = c.args.shelf.now in let t = c.obey.new.shelf in
    asked_err g.H.Shelf.asks (AskedNames (asked_of c.args.asked)) s c.from_residual.result t c.from_residual.ensures.0
    (subst (λ a. (t ≡ s) ⊎ AsksNamed g.H.Shelf.asks (AskedNames a) s t) (sym (ap asked_of c.in-Something.is)) c.in_err-reply-in-Something.ensures.asked)
