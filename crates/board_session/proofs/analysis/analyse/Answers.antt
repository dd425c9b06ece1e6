use Rattle.std.proofs.Common.{◌≡◌, IfOk, ap, refl, string_bytes, subst}
use Rattle.board_session.specs.Analysing.{counted_setup, none_found}
use Rattle.board_session.specs.Session.{finding_said}
use Rattle.board_orders.specs.Effects.{reply_text}
use Rattle.board_orders.specs.States.{present}
use Rattle.board_session.specs.inner.Settling.{SettlesAs}
use Rattle.board_session.proofs.AnalysisLemmas.{game_reported, stones_reported, unsettled_told}
use Rattle.board_session.proofs.analysis.analyse.Goals as goal

pub returns-in-Position-clause-reported : goal.returns-in-Position-clause-reported
returns-in-Position-clause-reported g c =
    let now = c.args.session.now in
    game_reported c.args.cycles c.args.limits.now c.in-Game.topic c.in-Game.colour c.args.analysis now c.in-Position.setup c.args.id.now c.reply_by.result
    c.in-Game.is (subst (SettlesAs (counted_setup (present now) now.komi_halves c.in-Game.colour)) c.in-Position.is c.in_ok-setup-in-Game.ensures) c.reply_by.ensures.replied

pub returns-in-Unsettled-clause-reported : goal.returns-in-Unsettled-clause-reported
returns-in-Unsettled-clause-reported g c =
    let now = c.args.session.now in let parts = counted_setup (present now) now.komi_halves c.in-Game.colour in
    let (point, first, is) = subst (SettlesAs parts) c.in-Unsettled.is c.in_ok-setup-in-Game.ensures in
    game_reported c.args.cycles c.args.limits.now c.in-Game.topic c.in-Game.colour c.args.analysis now parts c.args.id.now c.refuse_topic.result c.in-Game.is refl
    (unsettled_told c.args.cycles c.args.limits.now c.in-Game.topic parts point (string_bytes c.in-Unsettled.words) c.args.id.now c.refuse_topic.result first is
    (subst (λ t. IfOk c.refuse_topic.result (λ reply. reply ≡ reply_text c.args.id.now (finding_said (none_found c.in-Game.topic t)))) c.deref.ensures c.refuse_topic.ensures))

pub returns-in-Stones-clause-reported : goal.returns-in-Stones-clause-reported
returns-in-Stones-clause-reported g c =
    stones_reported c.args.cycles c.args.limits.now c.in-Stones.status c.args.analysis c.args.session.now c.present.result.now.board c.args.id.now c.report_stones.result
    c.in-Stones.is (ap (λ a. a.board) c.present.ensures.value) c.report_stones.ensures
