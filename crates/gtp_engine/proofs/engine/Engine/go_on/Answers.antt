use Rattle.std.proofs.Common.{sym, ap, ◌∙◌, Some}
use Rattle.std.proofs.lemmas.Bool.{both_ways}
use Rattle.gtp_engine.specs.inner.Doing.{with_table}
use Rattle.gtp_engine.proofs.OrderLemmas.{turn_refused, turn_taken}
use Rattle.gtp_engine.proofs.engine.Engine.go_on.Goals as goal

pub returns-then-not-is-clause-taken : goal.returns-then-not-is-clause-taken
returns-then-not-is-clause-taken c =
    let s = c.in-Some.game in
    let runs = ap (λ a. a.table.game) (sym c.self.view_is) ∙ c.in-Some.is in
    let side = c.side.ensures ∙ ap (λ x. x.side) c.whole.ensures in
    turn_refused c.args.self.now _ c.args.colour c.args.action s c.args.id.now c.in_ok-reply-in-Some.reply runs (λ e. absurd (both_ways _ c.if-not-is.true (c.is.ensures.1 (side ∙ e))))
    (ap (λ a. with_table a (record a.table { game = Some s })) c.self.view_is ∙ ap (λ g. with_table c.args.self.now (record c.args.self.now.table { game = g })) (sym runs))
    c.in_ok-reply-in-Some.ensures

pub returns-clause-taken : goal.returns-clause-taken
returns-clause-taken c =
    let s = c.in-Some.game in let v = c.act.new.game in
    let runs = ap (λ a. a.table.game) (sym c.self.view_is) ∙ c.in-Some.is in
    let side = c.side.ensures ∙ ap (λ x. x.side) c.whole.ensures in
    turn_taken c.args.self.now _ c.args.colour c.args.action s v c.args.id.now c.in_ok-reply-in-Some-2.reply runs (sym side ∙ c.is.ensures.0 c.if-not-is.false)
    c.in_ok-reply-in-Some-2.ensures.acted (ap (λ a. with_table a (record a.table { game = Some v })) c.self.view_is)
