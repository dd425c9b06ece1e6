use Rattle.std.proofs.Common.{List, ap, inl, inr, refl, subst, ℕ, ◌↔◌, ◌∙◌, ◌≡◌}
use Rattle.std.proofs.lemmas.Bool.{both_ways}
use Rattle.go_grid.specs.declared.grid.Colour.{Colour}
use Rattle.go_grid.specs.Board.{other}
use Rattle.whole_rules.specs.FirstWinningMove.{IsWinner}
use Rattle.game_players.specs.Players.{LosesGame}
use Rattle.sum_outcome.specs.Sums.{sum_tree}
use Rattle.endgame_solver.specs.Solved.{ArePresent, Solved, balance_units}
use Rattle.endgame_solver.proofs.LentLaws.{answers_lent, returned}
use Rattle.endgame_solver.proofs.WinningLaws.{held_lent, mover_wins, winner_by_sum}
use Rattle.endgame_solver.proofs.solved.Solved.winner.Goals as goal

-- who wins by plain recursion is who wins by the sum
abbrev WinsBySum : Colour → Solved → Type 0
WinsBySum c v = IsWinner v.state c → (ids : List ℕ) → ArePresent v ids
    → (c ≡ other v.state.side) ↔ LosesGame v.state.side (sum_tree v.trees ids (balance_units v.state))

pub mover_loses-requires-clause-seen : goal.mover_loses-requires-clause-seen
mover_loses-requires-clause-seen c = held_lent c.self.invariant.0 c.deref.ensures.value c.deref-2.ensures.value c.deref_mut.ensures.value

pub returns-then-mover_loses-clause-plain : goal.returns-then-mover_loses-clause-plain
returns-then-mover_loses-clause-plain c = subst (λ v. IsWinner v.state c.other.result) c.self.view_is
    (inr (c.other.ensures ∙ ap other c.side-side.ensures, c.mover_loses.ensures.loses.0 c.if-mover_loses.true))

pub returns-then-mover_loses-clause-sum : goal.returns-then-mover_loses-clause-sum
returns-then-mover_loses-clause-sum c =
    subst (WinsBySum c.other.result) c.self.view_is (winner_by_sum c.self.invariant.0.kept) (returns-then-mover_loses-clause-plain c)

pub returns-clause-plain : goal.returns-clause-plain
returns-clause-plain c =
    let loses = c.mover_loses.ensures.loses in
    let wins = mover_wins c.self.invariant.0.kept (λ h. both_ways c.mover_loses.result c.if-mover_loses.false (loses.1 h)) in
    subst (λ v. IsWinner v.state c.side-side.result) c.self.view_is (inl (c.side-side.ensures, wins))

pub returns-clause-sum : goal.returns-clause-sum
returns-clause-sum c = subst (WinsBySum c.side-side.result) c.self.view_is (winner_by_sum c.self.invariant.0.kept) (returns-clause-plain c)

pub mover_loses-requires-clause-fits : goal.mover_loses-requires-clause-fits
mover_loses-requires-clause-fits c = c.self.invariant.1

pub invariant_of-self : goal.invariant_of-self
invariant_of-self c =
    let inv = c.self.invariant in
    let back = returned c.deref_mut.ensures.value c.deref_mut.ensures.len c.mover_loses.ensures.same in
    (held_lent inv.0 refl refl back, c.mover_loses.ensures.fits, answers_lent inv.2 back refl)

pub invariant_of-self-2 : goal.invariant_of-self-2
invariant_of-self-2 c =
    let inv = c.self.invariant in
    let back = returned c.deref_mut.ensures.value c.deref_mut.ensures.len c.mover_loses.ensures.same in
    (held_lent inv.0 refl refl back, c.mover_loses.ensures.fits, answers_lent inv.2 back refl)

pub returns-then-mover_loses-clause-same : goal.returns-then-mover_loses-clause-same
returns-then-mover_loses-clause-same c = c.self.view_is

pub returns-clause-same : goal.returns-clause-same
returns-clause-same c = c.self.view_is
