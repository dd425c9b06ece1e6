use Rattle.std.proofs.Common.{ap, inl, refl, rules, arith, subst, sym, None, IfOk}
use Rattle.gtp_words.specs.Asking.{AsksBy}
use Rattle.gtp_words.proofs.AskingLemmas.{asked_none}
use Rattle.board_session.specs.Asking.{OrderNames}
use Rattle.board_orders.specs.Orders.BoardOrder.{analyse, genmove, reg_genmove}
use Rattle.board_orders.specs.Viewed.{order_of}
use Rattle.board_session.specs.inner.Obeying.{IsObeyed}
use Rattle.board_session.proofs.AnswerLemmas.{generated_obeyed, plain_obeyed, plain_same, reported_obeyed, suggested_obeyed}
use Rattle.board_session.proofs.AskingLemmas.{plain_names}
use Rattle.board_session.proofs.StepLemmas.{solver_steps}
use Rattle.board_session.proofs.engine.BoardEngine.obey.Goals as goal

pub returns-in_default : goal.returns-in_default
returns-in_default g c =
    let inside = c.self-in_default.inside in let is = c.self-in_default.view_is in let u = c.obey.new.self in record {
      obeyed = plain_obeyed inside.limits inside.loads inside.session u c.args.self.now is (g.H.Shelf.files c.args.shelf.now) (g.H.Shelf.faults c.args.shelf.now) c.args.id.now
          (order_of c.args.request) c.obey.result c.obey.ensures.obeyed;
      asked = asked_none g.H.Shelf.asks (OrderNames (order_of c.args.request)) c.args.shelf.now c.obey.result (plain_names (order_of c.args.request) (search rules));
      same = plain_same inside.limits inside.loads inside.session u c.args.self.now is c.obey.result c.obey.ensures.same;
      same_files = refl;
      later = omega arith;
      steps = inl refl;
    }

pub returns-in-GenMove-clause-obeyed : goal.returns-in-GenMove-clause-obeyed
returns-in-GenMove-clause-obeyed g c =
    let inside = c.self.inside in let u = c.generate.new.session in let colour = c.in-GenMove.colour in let id = c.args.id.now in
    generated_obeyed inside.limits inside.loads inside.session u c.args.self.now c.self.view_is (g.H.Shelf.files c.args.shelf.now) (g.H.Shelf.faults c.args.shelf.now) id
    (order_of c.args.request) colour (ap order_of c.in-GenMove.is) c.generate.result
    c.generate.ensures.generated

pub returns-in-RegGenMove-clause-obeyed : goal.returns-in-RegGenMove-clause-obeyed
returns-in-RegGenMove-clause-obeyed g c =
    let inside = c.self-in-RegGenMove.inside in let colour = c.in-RegGenMove.colour in let id = c.args.id.now in
    suggested_obeyed inside.limits inside.loads inside.session inside.session c.args.self.now c.self-in-RegGenMove.view_is (g.H.Shelf.files c.args.shelf.now) (g.H.Shelf.faults c.args.shelf.now) id
    (order_of c.args.request) colour (ap order_of c.in-RegGenMove.is) c.suggest.result
    c.suggest.ensures.suggested

pub returns-in-Analyse-clause-obeyed : goal.returns-in-Analyse-clause-obeyed
returns-in-Analyse-clause-obeyed g c =
    let inside = c.self-in-Analyse.inside in let analysis = c.in-Analyse.analysis in let id = c.args.id.now in
    reported_obeyed inside.limits inside.loads inside.session inside.session c.args.self.now c.self-in-Analyse.view_is (g.H.Shelf.files c.args.shelf.now) (g.H.Shelf.faults c.args.shelf.now) id
    (order_of c.args.request) analysis (ap order_of c.in-Analyse.is) c.analyse.result
    c.analyse.ensures.reported

pub returns-in-LoadSgf-clause-same : goal.returns-in-LoadSgf-clause-same
returns-in-LoadSgf-clause-same g c = c.load_file.ensures.same

pub returns-in-LoadSgf-clause-same_files : goal.returns-in-LoadSgf-clause-same_files
returns-in-LoadSgf-clause-same_files g c = c.load_file.ensures.same_files

pub returns-in-LoadSgf-clause-later : goal.returns-in-LoadSgf-clause-later
returns-in-LoadSgf-clause-later g c = c.load_file.ensures.later

pub returns-in-GenMove-clause-same : goal.returns-in-GenMove-clause-same
returns-in-GenMove-clause-same g c =
    let inside = c.self.inside in plain_same inside.limits inside.loads inside.session c.generate.new.session c.args.self.now c.self.view_is c.generate.result c.generate.ensures.same

pub returns-in-LoadSgf-clause-obeyed : goal.returns-in-LoadSgf-clause-obeyed
returns-in-LoadSgf-clause-obeyed g c =
    let files = g.H.Shelf.files c.args.shelf.now in let before = g.H.Shelf.faults c.args.shelf.now in let now = g.H.Shelf.faults c.load_file.new.shelf in
    subst (λ o. IfOk c.load_file.result (λ reply. IsObeyed files before now c.args.id.now o c.args.self.now reply c.load_file.new.self)) (sym (ap order_of c.in-LoadSgf.is)) c.load_file.ensures.loaded

pub returns-in-GenMove-clause-asked : goal.returns-in-GenMove-clause-asked
returns-in-GenMove-clause-asked g c =
    asked_none g.H.Shelf.asks (OrderNames (order_of c.args.request)) c.args.shelf.now c.generate.result (subst (λ o. OrderNames o None) (sym (ap order_of c.in-GenMove.is)) refl)

pub returns-in-RegGenMove-clause-asked : goal.returns-in-RegGenMove-clause-asked
returns-in-RegGenMove-clause-asked g c =
    asked_none g.H.Shelf.asks (OrderNames (order_of c.args.request)) c.args.shelf.now c.suggest.result (subst (λ o. OrderNames o None) (sym (ap order_of c.in-RegGenMove.is)) refl)

pub returns-in-Analyse-clause-asked : goal.returns-in-Analyse-clause-asked
returns-in-Analyse-clause-asked g c =
    asked_none g.H.Shelf.asks (OrderNames (order_of c.args.request)) c.args.shelf.now c.analyse.result (subst (λ o. OrderNames o None) (sym (ap order_of c.in-Analyse.is)) refl)

pub returns-in-LoadSgf-clause-asked : goal.returns-in-LoadSgf-clause-asked
returns-in-LoadSgf-clause-asked g c =
    subst (λ o. AsksBy g.H.Shelf.asks (OrderNames o) c.args.shelf.now c.load_file.new.shelf c.load_file.result) (sym (ap order_of c.in-LoadSgf.is)) c.load_file.ensures.asked

pub returns-in-GenMove-clause-steps : goal.returns-in-GenMove-clause-steps
returns-in-GenMove-clause-steps g c =
    let inside = c.self.inside in
    solver_steps inside.limits inside.loads inside.session c.args.self.now c.self.view_is (order_of c.args.request) (genmove c.in-GenMove.colour) (ap order_of c.in-GenMove.is) tt
    c.args.steps.now c.generate.new.steps c.generate.ensures.steps

pub returns-in-RegGenMove-clause-steps : goal.returns-in-RegGenMove-clause-steps
returns-in-RegGenMove-clause-steps g c =
    let inside = c.self-in-RegGenMove.inside in
    solver_steps inside.limits inside.loads inside.session c.args.self.now c.self-in-RegGenMove.view_is (order_of c.args.request) (reg_genmove c.in-RegGenMove.colour) (ap order_of c.in-RegGenMove.is) tt
    c.args.steps.now c.suggest.new.steps c.suggest.ensures.steps

pub returns-in-Analyse-clause-steps : goal.returns-in-Analyse-clause-steps
returns-in-Analyse-clause-steps g c =
    let inside = c.self-in-Analyse.inside in
    solver_steps inside.limits inside.loads inside.session c.args.self.now c.self-in-Analyse.view_is (order_of c.args.request) (analyse c.in-Analyse.analysis) (ap order_of c.in-Analyse.is) tt
    c.args.steps.now c.analyse.new.steps c.analyse.ensures.steps
