use Rattle.std.proofs.Common.{IfOk, arith, ap, inl, inr, refl, rules, subst, sym, None}
use Rattle.gtp_words.specs.Asking.{AsksBy}
use Rattle.gtp_words.proofs.AskingLemmas.{asked_none}
use Rattle.gtp_engine.specs.Asking.{OrderNames}
use Rattle.gtp_engine.specs.declared.playing.Action.TheVariants.{Generate, Play}
use Rattle.gtp_engine.specs.Request.Order.{genmove, play}
use Rattle.gtp_engine.specs.Steps.{IsTurn}
use Rattle.gtp_engine.specs.inner.Viewed.{order_of}
use Rattle.gtp_engine.specs.inner.Written.{IsObeyed}
use Rattle.gtp_engine.proofs.AnswerLemmas.{obeyed_turn, plain_obeyed}
use Rattle.gtp_engine.proofs.AskingLemmas.{plain_names}
use Rattle.gtp_engine.proofs.engine.Engine.obey.Goals as goal

pub returns-in_default : goal.returns-in_default
returns-in_default g c =
    let files = g.H.Shelf.files c.args.shelf.now in let faults = g.H.Shelf.faults c.args.shelf.now in record {
      obeyed = plain_obeyed files faults c.args.id.now (order_of c.args.request) c.args.self.now c.obey_plain.new.self c.obey_plain.result c.obey_plain.ensures.obeyed;
      asked = asked_none g.H.Shelf.asks (OrderNames (order_of c.args.request)) c.args.shelf.now c.obey_plain.result (plain_names (order_of c.args.request) (search rules));
      same = c.obey_plain.ensures.same;
      same_files = refl;
      later = omega arith;
      steps = inl refl;
    }

pub returns-in-GenMove-clause-obeyed : goal.returns-in-GenMove-clause-obeyed
returns-in-GenMove-clause-obeyed g c =
    let files = g.H.Shelf.files c.args.shelf.now in let faults = g.H.Shelf.faults c.args.shelf.now in let a = c.args.self.now in
    obeyed_turn files faults faults c.args.id.now (order_of c.args.request) (genmove c.in-GenMove.colour) c.in-GenMove.colour Generate a c.take_turn-in-GenMove.new.self c.take_turn-in-GenMove.result
    (ap order_of c.in-GenMove.is) (λ said u t. (refl, t)) c.take_turn-in-GenMove.ensures.taken

pub returns-in-LoadSgf-clause-obeyed : goal.returns-in-LoadSgf-clause-obeyed
returns-in-LoadSgf-clause-obeyed g c =
    subst (λ o. IfOk c.load_file.result (λ reply. IsObeyed (g.H.Shelf.files c.args.shelf.now) (g.H.Shelf.faults c.args.shelf.now) (g.H.Shelf.faults c.load_file.new.shelf) c.args.id.now o c.args.self.now reply c.load_file.new.self))
    (sym (ap order_of c.in-LoadSgf.is)) c.load_file.ensures.loaded

pub returns-in-Play-clause-obeyed : goal.returns-in-Play-clause-obeyed
returns-in-Play-clause-obeyed g c =
    let files = g.H.Shelf.files c.args.shelf.now in let faults = g.H.Shelf.faults c.args.shelf.now in let a = c.args.self.now in
    obeyed_turn files faults faults c.args.id.now (order_of c.args.request) (play c.in-Play.colour c.in-Play.wanted) c.in-Play.colour (Play c.in-Play.wanted) a c.take_turn.new.self c.take_turn.result
    (ap order_of c.in-Play.is) (λ said u t. (refl, t)) c.take_turn.ensures.taken

pub returns-in-GenMove-clause-asked : goal.returns-in-GenMove-clause-asked
returns-in-GenMove-clause-asked g c =
    asked_none g.H.Shelf.asks (OrderNames (order_of c.args.request)) c.args.shelf.now c.take_turn-in-GenMove.result (subst (λ o. OrderNames o None) (sym (ap order_of c.in-GenMove.is)) refl)

pub returns-in-Play-clause-asked : goal.returns-in-Play-clause-asked
returns-in-Play-clause-asked g c =
    asked_none g.H.Shelf.asks (OrderNames (order_of c.args.request)) c.args.shelf.now c.take_turn.result (subst (λ o. OrderNames o None) (sym (ap order_of c.in-Play.is)) refl)

pub returns-in-LoadSgf-clause-asked : goal.returns-in-LoadSgf-clause-asked
returns-in-LoadSgf-clause-asked g c =
    subst (λ o. AsksBy g.H.Shelf.asks (OrderNames o) c.args.shelf.now c.load_file.new.shelf c.load_file.result) (sym (ap order_of c.in-LoadSgf.is)) c.load_file.ensures.asked

pub returns-in-GenMove-clause-steps : goal.returns-in-GenMove-clause-steps
returns-in-GenMove-clause-steps g c =
    elim c.take_turn-in-GenMove.ensures.steps [ inl none ↦ inl none | inr opens ↦ inr (subst IsTurn (sym (ap order_of c.in-GenMove.is)) tt, opens) ]

pub returns-in-Play-clause-steps : goal.returns-in-Play-clause-steps
returns-in-Play-clause-steps g c =
    elim c.take_turn.ensures.steps [ inl none ↦ inl none | inr opens ↦ inr (subst IsTurn (sym (ap order_of c.in-Play.is)) tt, opens) ]
