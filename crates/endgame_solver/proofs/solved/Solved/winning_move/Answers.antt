use Rattle.std.proofs.Common.{None, refl, subst, ◌↔◌, ◌≡◌}
use Rattle.whole_rules.specs.FirstWinningMove.{IsFirstWinning}
use Rattle.whole_rules.specs.PlainRecursion.{MoverLoses}
use Rattle.whole_rules.specs.WholeGame.{Whole, Leads}
use Rattle.endgame_solver.proofs.LentLaws.{answers_lent, returned}
use Rattle.endgame_solver.proofs.WinningLaws.{held_lent, none_loses}
use Rattle.endgame_solver.proofs.solved.Solved.winning_move.Goals as goal

pub returns-clause-none : goal.returns-clause-none
returns-clause-none c = subst (λ v. (c.first_winning_move.result ≡ None) ↔ MoverLoses Whole Leads v.state) c.self.view_is
    (none_loses c.self.invariant.0.kept c.first_winning_move.result c.first_winning_move.ensures.first)

pub returns-clause-first : goal.returns-clause-first
returns-clause-first c = subst (λ v. IsFirstWinning v.state c.first_winning_move.result) c.self.view_is c.first_winning_move.ensures.first

pub first_winning_move-requires-clause-seen : goal.first_winning_move-requires-clause-seen
first_winning_move-requires-clause-seen c = held_lent c.self.invariant.0 c.deref.ensures.value c.deref-2.ensures.value c.deref_mut.ensures.value

pub first_winning_move-requires-clause-fits : goal.first_winning_move-requires-clause-fits
first_winning_move-requires-clause-fits c = c.self.invariant.1

pub invariant_of-self : goal.invariant_of-self
invariant_of-self c =
    let inv = c.self.invariant in
    let back = returned c.deref_mut.ensures.value c.deref_mut.ensures.len c.first_winning_move.ensures.same in
    (held_lent inv.0 refl refl back, c.first_winning_move.ensures.fits, answers_lent inv.2 back refl)

pub returns-clause-same : goal.returns-clause-same
returns-clause-same c = c.self.view_is
