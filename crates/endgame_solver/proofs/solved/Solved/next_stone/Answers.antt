use mir.Val.{of_z, to_z}
use mir.Syntax.{w64}
use Rattle.std.proofs.Common.{IfSome, refl, subst}
use Rattle.std.proofs.lemmas.Int.{to_z-of_z}
use Rattle.whole_rules.specs.declared.states.Move.TheVariants.{Stone}
use Rattle.whole_rules.specs.WholeGame.{IsLegal}
use Rattle.endgame_solver.specs.inner.Line.{TellsNext}
use Rattle.endgame_solver.proofs.LentLaws.{answers_lent, returned}
use Rattle.endgame_solver.proofs.WinningLaws.{held_lent}
use Rattle.endgame_solver.proofs.solved.Solved.next_stone.Goals as goal

pub next_stone-requires-clause-seen : goal.next_stone-requires-clause-seen
next_stone-requires-clause-seen c = held_lent c.self.invariant.0 c.deref.ensures.value c.deref-2.ensures.value c.deref_mut.ensures.value

pub returns-clause-next : goal.returns-clause-next
returns-clause-next c = subst (λ v. TellsNext v.regions v.state c.args.beyond c.next_stone.result) c.self.view_is
    (subst (λ z. TellsNext c.self.inside.regions.items c.self.inside.whole z c.next_stone.result) (to_z-of_z w64 c.args.beyond c.ranges.beyond)
    (subst (λ rs. TellsNext rs c.self.inside.whole (to_z w64 (of_z w64 c.args.beyond)) c.next_stone.result) c.deref.ensures.value c.next_stone.ensures.next))

pub returns-clause-legal : goal.returns-clause-legal
returns-clause-legal c = subst (λ v. IfSome c.next_stone.result (λ p. IsLegal v.state (Stone p))) c.self.view_is c.next_stone.ensures.legal

pub next_stone-requires-clause-fits : goal.next_stone-requires-clause-fits
next_stone-requires-clause-fits c = c.self.invariant.1

pub invariant_of-self : goal.invariant_of-self
invariant_of-self c =
    let inv = c.self.invariant in
    let back = returned c.deref_mut.ensures.value c.deref_mut.ensures.len c.next_stone.ensures.same in
    (held_lent inv.0 refl refl back, c.next_stone.ensures.fits, answers_lent inv.2 back refl)

pub returns-clause-same : goal.returns-clause-same
returns-clause-same c = c.self.view_is
