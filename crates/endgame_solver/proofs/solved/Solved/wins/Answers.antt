use Rattle.std.proofs.Common.{IsTrue, MatchOption, refl, subst, ◌↔◌}
use Rattle.whole_rules.specs.FirstWinningMove.{IsWinning}
use Rattle.whole_rules.specs.WholeGame.{IsLegal}
use Rattle.endgame_solver.proofs.LentLaws.{answers_lent, returned}
use Rattle.endgame_solver.proofs.WinningLaws.{held_lent}
use Rattle.endgame_solver.proofs.solved.Solved.wins.Goals as goal

pub outcome-requires-clause-seen : goal.outcome-requires-clause-seen
outcome-requires-clause-seen c = held_lent c.self.invariant.0 c.deref.ensures.value c.deref-2.ensures.value c.deref_mut.ensures.value

pub returns-clause-wins : goal.returns-clause-wins
returns-clause-wins c = subst
    (λ v. MatchOption c.outcome.result (¬ IsLegal v.state c.args.chosen)
    (λ wins. IsLegal v.state c.args.chosen × (IsTrue wins ↔ IsWinning v.state c.args.chosen))) c.self.view_is c.outcome.ensures.wins

pub outcome-requires-clause-fits : goal.outcome-requires-clause-fits
outcome-requires-clause-fits c = c.self.invariant.1

pub outcome-requires-clause-right : goal.outcome-requires-clause-right
outcome-requires-clause-right c = answers_lent c.self.invariant.2 c.deref_mut.ensures.value c.deref-3.ensures.value

pub invariant_of-self : goal.invariant_of-self
invariant_of-self c =
    let inv = c.self.invariant in
    let back = returned c.deref_mut.ensures.value c.deref_mut.ensures.len c.outcome.ensures.same in
    (held_lent inv.0 refl refl back, c.outcome.ensures.fits, answers_lent inv.2 back refl)

pub returns-clause-same : goal.returns-clause-same
returns-clause-same c = c.self.view_is
