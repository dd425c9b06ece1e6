use Rattle.std.proofs.Common.{false, refl, subst}
use Rattle.std.proofs.lemmas.Result.{IfOk-weaker}
use Rattle.gtp_engine.specs.Session.{with_side}
use Rattle.gtp_engine.specs.inner.Playing.{IsOpened}
use Rattle.gtp_engine.proofs.OrderLemmas.{turn_first, turn_unsolved}
use Rattle.gtp_engine.proofs.RoomLemmas.{opened_room}
use Rattle.gtp_engine.proofs.engine.Engine.set_out.Goals as goal

pub begin-requires : goal.begin-requires
begin-requires g c =
    let a = c.args.self.now in let other = with_side a.table.setup c.args.colour in
    record { room = opened_room a.limits.cycles a.limits.game false other c.in-Some.game (subst (IsOpened a.limits.cycles a.limits.game other) c.in-Some.is c.in_ok-opened.ensures.opened) }

pub returns-in-Some-clause-taken : goal.returns-in-Some-clause-taken
returns-in-Some-clause-taken g c =
    let a = c.args.self.now in let limits = a.limits.game in let other = with_side a.table.setup c.args.colour in
    IfOk-weaker c.begin.result _ _ (λ reply begun. turn_first a limits a.table.setup other c.args.colour c.args.action c.args.id.now reply refl refl c.requires.fresh refl c.begin.new.self c.in-Some.game begun.0
    (subst (IsOpened a.limits.cycles limits other) c.in-Some.is c.in_ok-opened.ensures.opened) begun.1 begun.2) c.begin.ensures.begun

pub returns-in-None-clause-taken : goal.returns-in-None-clause-taken
returns-in-None-clause-taken g c =
    let a = c.args.self.now in let limits = a.limits.game in let other = with_side a.table.setup c.args.colour in
    IfOk-weaker c.refuse.result _ _ (λ reply said. turn_unsolved a limits a.table.setup other c.args.colour c.args.action c.args.id.now reply refl refl c.requires.fresh refl
    (subst (IsOpened a.limits.cycles limits other) c.in-None.is c.in_ok-opened.ensures.opened) said) c.refuse.ensures
