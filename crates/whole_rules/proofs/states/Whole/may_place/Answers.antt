use Rattle.std.proofs.Common.{refl, subst, Err}
use Rattle.go_play.specs.Place.{PlacesStone}
use Rattle.whole_rules.proofs.MoveLaws.{legal_stone, refused_stone}
use Rattle.whole_rules.proofs.states.Whole.may_place.Goals as goal

pub returns-in-Ok : goal.returns-in-Ok
returns-in-Ok c =
    let r = c.in-Ok.ensures in
    (λ _. legal_stone c.args.self.now c.args.point (c.contested.ensures.0 c.if-not-contested.false) r.0 c.in-Ok.field-0 (rw (← c.self.view_is) r.1.0) (rw (← c.self.view_is) r.1.1), λ _. refl)

pub returns-in-Err : goal.returns-in-Err
returns-in-Err c =
    let r = c.in-Err.ensures in
    (λ e. absurd cc, λ l. absurd (refused_stone c.args.self.now c.args.point r.0 c.in-Err.field-0 (subst (λ s. PlacesStone s.board c.args.point s.side r.0 (Err c.in-Err.field-0)) c.self.view_is r.1) l))
