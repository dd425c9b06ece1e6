use Rattle.std.proofs.Common.{◌≡◌, [], refl, ap, ◌∙◌, subst, IfOk}
use Rattle.board_orders.specs.Orders.BoardOrder.{ask, known, quit, tell}
use Rattle.board_orders.specs.Effects.{answer_text, done, reply_text}
use Rattle.board_orders.specs.Viewed.{order_of}
use Rattle.board_orders.proofs.OrderLemmas.{done_as, done_cleared, done_told, same_always}
use Rattle.board_orders.proofs.session.BoardSession.obey.Goals as goal

pub returns-in-Tell-clause-obeyed : goal.returns-in-Tell-clause-obeyed
returns-in-Tell-clause-obeyed c =
    done_told c.args.id.now c.in-Tell.text.now (order_of c.args.request) (tell c.in-Tell.text.now) c.args.self.now c.accept.result (ap order_of c.in-Tell.is) (refl, refl) c.accept.ensures

pub returns-in-Known-clause-obeyed : goal.returns-in-Known-clause-obeyed
returns-in-Known-clause-obeyed c =
    done_told c.args.id.now c.known.result.now (order_of c.args.request) (known c.in-Known.word.now) c.args.self.now c.accept-in-Known.result (ap order_of c.in-Known.is)
    (c.known.result.now, c.known.ensures, refl, refl) c.accept-in-Known.ensures

pub returns-in_ok-text-in-Ask-clause-obeyed : goal.returns-in_ok-text-in-Ask-clause-obeyed
returns-in_ok-text-in-Ask-clause-obeyed c =
    let now = c.args.self.now in let question = c.in-Ask.question in let id = c.args.id.now in
    done_told id (answer_text question now) (order_of c.args.request) (ask question) now c.accept-in-Ask.result (ap order_of c.in-Ask.is) (refl, refl)
    (subst (λ t. IfOk c.accept-in-Ask.result (λ reply. reply ≡ reply_text id (done t))) (c.as_bytes.ensures.value ∙ c.in_ok-text-in-Ask.ensures) c.accept-in-Ask.ensures)

pub returns-in-Quit-clause-obeyed : goal.returns-in-Quit-clause-obeyed
returns-in-Quit-clause-obeyed c = done_told c.args.id.now [] (order_of c.args.request) quit c.args.self.now c.accept-in-Quit.result (ap order_of c.in-Quit.is) (refl, refl) c.accept-in-Quit.ensures

pub returns-in-ClearBoard-clause-obeyed : goal.returns-in-ClearBoard-clause-obeyed
returns-in-ClearBoard-clause-obeyed c =
    done_cleared c.args.id.now c.size-size.result.columns c.size-size.result.rows (order_of c.args.request) c.args.self.now c.clear.new.self c.clear.result (ap order_of c.in-ClearBoard.is)
    (c.size-size.ensures.columns ∙ ap (λ a. a.board.columns) c.present.ensures.value) (c.size-size.ensures.rows ∙ ap (λ a. a.board.rows) c.present.ensures.value) c.clear.ensures.cleared

pub returns-in-BoardSize-clause-obeyed : goal.returns-in-BoardSize-clause-obeyed
returns-in-BoardSize-clause-obeyed c = done_as _ _ _ _ _ c.resize.result (ap order_of c.in-BoardSize.is) c.resize.ensures.resized

pub returns-in-Play-clause-obeyed : goal.returns-in-Play-clause-obeyed
returns-in-Play-clause-obeyed c = done_as _ _ _ _ _ c.play.result (ap order_of c.in-Play.is) c.play.ensures.played

pub returns-in-Undo-clause-obeyed : goal.returns-in-Undo-clause-obeyed
returns-in-Undo-clause-obeyed c = done_as _ _ _ _ _ c.take_back.result (ap order_of c.in-Undo.is) c.take_back.ensures.taken

pub returns-in-FixedHandicap-clause-obeyed : goal.returns-in-FixedHandicap-clause-obeyed
returns-in-FixedHandicap-clause-obeyed c = done_as _ _ _ _ _ c.set_fixed.result (ap order_of c.in-FixedHandicap.is) c.set_fixed.ensures.set

pub returns-in-FreeHandicap-clause-obeyed : goal.returns-in-FreeHandicap-clause-obeyed
returns-in-FreeHandicap-clause-obeyed c = done_as _ _ _ _ _ c.set_free.result (ap order_of c.in-FreeHandicap.is) c.set_free.ensures.set

pub returns-in-BoardSize-clause-same : goal.returns-in-BoardSize-clause-same
returns-in-BoardSize-clause-same c = c.resize.ensures.same

pub returns-in-ClearBoard-clause-same : goal.returns-in-ClearBoard-clause-same
returns-in-ClearBoard-clause-same c = c.clear.ensures.same

pub returns-in-Komi-clause-same : goal.returns-in-Komi-clause-same
returns-in-Komi-clause-same c = c.set_komi.ensures.same

pub returns-in-Play-clause-same : goal.returns-in-Play-clause-same
returns-in-Play-clause-same c = c.play.ensures.same

pub returns-in-Undo-clause-same : goal.returns-in-Undo-clause-same
returns-in-Undo-clause-same c = c.take_back.ensures.same

pub returns-in-FixedHandicap-clause-same : goal.returns-in-FixedHandicap-clause-same
returns-in-FixedHandicap-clause-same c = c.set_fixed.ensures.same

pub returns-in-FreeHandicap-clause-same : goal.returns-in-FreeHandicap-clause-same
returns-in-FreeHandicap-clause-same c = c.set_free.ensures.same

pub returns-in-Tell-clause-same : goal.returns-in-Tell-clause-same
returns-in-Tell-clause-same c = same_always c.args.self.now c.accept.result

pub returns-in-Known-clause-same : goal.returns-in-Known-clause-same
returns-in-Known-clause-same c = same_always c.args.self.now c.accept-in-Known.result

pub returns-in_ok-text-in-Ask-clause-same : goal.returns-in_ok-text-in-Ask-clause-same
returns-in_ok-text-in-Ask-clause-same c = same_always c.args.self.now c.accept-in-Ask.result

pub returns-in-Quit-clause-same : goal.returns-in-Quit-clause-same
returns-in-Quit-clause-same c = same_always c.args.self.now c.accept-in-Quit.result
