use Rattle.std.proofs.Common.{◌↔◌, ◌∙◌, ◌≤◌, IsTrue, MatchOption, ap, arith, refl, subst, sym}
use Rattle.std.proofs.lemmas.Bool.{both_ways}
use Rattle.whole_rules.specs.FirstWinningMove.{IsWinning}
use Rattle.whole_rules.specs.Purses.{halved, paid_out, purse}
use Rattle.whole_rules.specs.WholeGame.{IsLegal, after}
use Rattle.endgame_solver.proofs.outcomes.outcome.Goals as goal

pub returns-in-Stone-clause-wins : goal.returns-in-Stone-clause-wins
returns-in-Stone-clause-wins c =
    let s = c.args.present.now.whole.now in
    subst (λ m. MatchOption c.stone_outcome.result (¬ IsLegal s m) (λ wins. IsLegal s m × (IsTrue wins ↔ IsWinning s m))) (sym c.in-Stone.is)
    c.stone_outcome.ensures.wins

pub returns-else-purse-eq0-clause-wins : goal.returns-else-purse-eq0-clause-wins
returns-else-purse-eq0-clause-wins c =
    let s = c.args.present.now.whole.now in
    let purse_is = c.purse.ensures ∙ ap (λ d. purse d s.purses) c.side.ensures in
    let one : 1 ≤ purse s.side s.purses = omega (arith, c.if-purse-eq0.false, purse_is) in
    subst (λ m. IsLegal s m × (IsTrue c.spend_wins.result ↔ IsWinning s m)) (sym c.in-Spend.is)
    ((after s.board (paid_out s.side s.purses) s, (one, refl)), c.spend_wins.ensures.wins)

pub returns-else-is_nobody-clause-wins : goal.returns-else-is_nobody-clause-wins
returns-else-is_nobody-clause-wins c =
    let s = c.args.present.now.whole.now in
    subst (λ m. IsLegal s m × (IsTrue c.half_wins.result ↔ IsWinning s m)) (sym c.in-Half.is) (
      (
        after s.board (halved s.side s.purses) s,
        (λ e. both_ways c.is_nobody.result c.if-is_nobody.false (c.is_nobody.ensures.1 (c.token.ensures ∙ e)), refl),
      ),
      c.half_wins.ensures.wins,
    )
