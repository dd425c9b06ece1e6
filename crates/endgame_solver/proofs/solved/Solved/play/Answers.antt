use Rattle.std.proofs.Common.{arith, subst, sym}
use Rattle.go_grid.specs.declared.grid.Colour.TheVariants.{Black, White}
use Rattle.whole_rules.specs.WholeGame.{IsMove}
use Rattle.endgame_solver.proofs.HeldLaws.{kept_applied, some_edge}
use Rattle.endgame_solver.proofs.AskedLaws.{none_answered}
use Rattle.endgame_solver.proofs.WinningLaws.{held_as, shows_places, stone_has, stone_held, stone_none}
use Rattle.endgame_solver.proofs.solved.Solved.play.Goals as goal

pub apply-requires : goal.apply-requires
apply-requires c =
    let room = c.self.invariant.0.kept.room.room in
    record { black = omega (arith, room Black); white = omega (arith, room White) }

pub invariant_of-self : goal.invariant_of-self
invariant_of-self c =
    let held = c.self.invariant.0 in
    (held_as held (kept_applied held.kept c.args.chosen c.in_default.not-Stone c.apply.new.self c.apply.result c.apply.ensures), c.self.invariant.1, none_answered c.clear.ensures.items)

pub apply-requires-2-clause-black : goal.apply-requires-2-clause-black
apply-requires-2-clause-black c = omega (arith, c.self.invariant.0.kept.room.room Black)

pub apply-requires-2-clause-white : goal.apply-requires-2-clause-white
apply-requires-2-clause-white c = omega (arith, c.self.invariant.0.kept.room.room White)

pub stone_edge-edge-requires : goal.stone_edge-edge-requires
stone_edge-edge-requires c = shows_places c.self.invariant.0 c.deref.ensures.value c.deref-2.ensures.value

pub value_seen-requires : goal.value_seen-requires
value_seen-requires c =
    stone_has c.self.invariant.0 c.deref.ensures.value c.deref-2.ensures.value c.side-side.ensures (c.in-Some.ensures {u = tt}).edges

pub invariant_of-self-in-Some : goal.invariant_of-self-in-Some
invariant_of-self-in-Some c =
    let found = (c.in-Some.ensures {u = tt}).edges in
    let move = c.in_ok-apply.ensures {u = tt} in
    (stone_held c.self.invariant.0 c.deref.ensures.value c.deref-2.ensures.value c.side-side.ensures found c.value_seen.ensures c.apply-2.new.self move, c.self.invariant.1, none_answered c.clear.ensures.items)

pub invariant_of-self-in_default-edge : goal.invariant_of-self-in_default-edge
invariant_of-self-in_default-edge c =
    let held = c.self.invariant.0 in
    let none = stone_none held c.deref.ensures.value c.deref-2.ensures.value c.side-side.ensures (c.in_default-edge.ensures {u = tt}).edges in
    absurd (some_edge held.kept c.in-Stone.point c.apply-2.new.self (c.in_ok-apply.ensures {u = tt}) none)

pub returns-in_default-edge-clause-applied : goal.returns-in_default-edge-clause-applied
returns-in_default-edge-clause-applied c =
    let moved = subst (λ m. IsMove c.self.inside.whole m c.apply-2.new.self) (sym c.in-Stone.is) (c.in_ok-apply.ensures {u = tt}) in
    subst (λ v. IsMove v.state c.args.chosen c.apply-2.new.self) c.self.view_is moved

pub returns-in-Some-clause-applied : goal.returns-in-Some-clause-applied
returns-in-Some-clause-applied c =
    let moved = subst (λ m. IsMove c.self.inside.whole m c.apply-2.new.self) (sym c.in-Stone.is) (c.in_ok-apply.ensures {u = tt}) in
    subst (λ v. IsMove v.state c.args.chosen c.apply-2.new.self) c.self.view_is moved
