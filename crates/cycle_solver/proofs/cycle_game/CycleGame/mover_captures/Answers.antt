use Rattle.std.proofs.Common.{IfSome, MatchOption, length, refl, replicate, subst, sym, ◌∙◌}
use Rattle.whole_rules.specs.FirstWinningMove.{IsWinner}
use Rattle.whole_budgets.specs.EnginePlay.{AreLeastCaptures, WinsWithList}
use Rattle.cycle_solver.proofs.KeepingLaws.{captures_found}
use Rattle.cycle_solver.proofs.LentLaws.{answers_back, kept_back, returned, seen_for}
use Rattle.cycle_solver.proofs.cycle_game.CycleGame.mover_captures.Goals as goal

pub returns-in-Black-clause-wins : goal.returns-in-Black-clause-wins
returns-in-Black-clause-wins c =
    let i = c.self.inside in
    let answer = c.mover_captures in
    let held = c.self.invariant.0.held in
    let least = subst (λ rs. MatchOption answer.result (¬ IsWinner i.whole i.whole.side) (λ n. AreLeastCaptures rs i.whole i.whole.side n)) c.deref.ensures.value
    answer.ensures.captures in
    subst (λ v. IfSome answer.result (λ n. WinsWithList v.regions v.state.side v.state (replicate (length v.regions) n))) c.self.view_is
    (captures_found held.board i.regions.items held.solved.cut i.whole answer.result least)

pub returns-in-White-clause-wins : goal.returns-in-White-clause-wins
returns-in-White-clause-wins c =
    let i = c.self.inside in
    let answer = c.mover_captures-in-White in
    let held = c.self.invariant.0.held in
    let least = subst (λ rs. MatchOption answer.result (¬ IsWinner i.whole i.whole.side) (λ n. AreLeastCaptures rs i.whole i.whole.side n)) c.deref.ensures.value
    answer.ensures.captures in
    subst (λ v. IfSome answer.result (λ n. WinsWithList v.regions v.state.side v.state (replicate (length v.regions) n))) c.self.view_is
    (captures_found held.board i.regions.items held.solved.cut i.whole answer.result least)

pub mover_captures-requires-clause-fits : goal.mover_captures-requires-clause-fits
mover_captures-requires-clause-fits c = c.self.invariant.1

pub invariant_of-self : goal.invariant_of-self
invariant_of-self c =
    let inv = c.self.invariant in
    let low = returned c.deref_mut.ensures.value c.deref_mut.ensures.len c.mover_captures.ensures.same in (
      kept_back inv.0 low refl,
      c.mover_captures.ensures.fits,
      answers_back inv.2 low,
      inv.3,
    )

pub returns-in-Black-clause-same : goal.returns-in-Black-clause-same
returns-in-Black-clause-same c = c.self.view_is

pub mover_captures-requires-clause-seen : goal.mover_captures-requires-clause-seen
mover_captures-requires-clause-seen c =
    let kept = c.self.invariant.0 in
    seen_for (sym c.in-Black.is ∙ c.side.ensures) kept.held kept.low_sum c.deref.ensures.value refl c.deref-2.ensures.value c.deref_mut.ensures.value

pub returns-in-Black-clause-captures : goal.returns-in-Black-clause-captures
returns-in-Black-clause-captures c =
    let answer = c.mover_captures in
    let least = subst (λ rs. MatchOption answer.result (¬ IsWinner c.self.inside.whole c.self.inside.whole.side)
    (λ n. AreLeastCaptures rs c.self.inside.whole c.self.inside.whole.side n)) c.deref.ensures.value answer.ensures.captures in
    subst (λ v. MatchOption answer.result (¬ IsWinner v.state v.state.side) (λ n. AreLeastCaptures v.regions v.state v.state.side n)) c.self.view_is least

pub mover_captures-requires-in-White-clause-fits : goal.mover_captures-requires-in-White-clause-fits
mover_captures-requires-in-White-clause-fits c = c.self.invariant.1

pub invariant_of-self-in-White : goal.invariant_of-self-in-White
invariant_of-self-in-White c =
    let inv = c.self.invariant in
    let high = returned c.deref_mut-in-White.ensures.value c.deref_mut-in-White.ensures.len c.mover_captures-in-White.ensures.same in (
      kept_back inv.0 refl high,
      c.mover_captures-in-White.ensures.fits,
      inv.2,
      answers_back inv.3 high,
    )

pub returns-in-White-clause-same : goal.returns-in-White-clause-same
returns-in-White-clause-same c = c.self.view_is

pub mover_captures-requires-in-White-clause-seen : goal.mover_captures-requires-in-White-clause-seen
mover_captures-requires-in-White-clause-seen c =
    let kept = c.self.invariant.0 in
    seen_for (sym c.in-White.is ∙ c.side.ensures) kept.held kept.high_sum c.deref.ensures.value refl c.deref-2.ensures.value c.deref_mut-in-White.ensures.value

pub returns-in-White-clause-captures : goal.returns-in-White-clause-captures
returns-in-White-clause-captures c =
    let answer = c.mover_captures-in-White in
    let least = subst (λ rs. MatchOption answer.result (¬ IsWinner c.self.inside.whole c.self.inside.whole.side)
    (λ n. AreLeastCaptures rs c.self.inside.whole c.self.inside.whole.side n)) c.deref.ensures.value answer.ensures.captures in
    subst (λ v. MatchOption answer.result (¬ IsWinner v.state v.state.side) (λ n. AreLeastCaptures v.regions v.state v.state.side n)) c.self.view_is least
