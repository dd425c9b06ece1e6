use Rattle.std.proofs.Common.{arith, refl, sym}
use Rattle.benson_life.specs.inner.Eyes.{IsOfChain}
use Rattle.go_grid.proofs.PointsLemmas.{each_item}
use Rattle.benson_life.proofs.SurveyLemmas.{liberty_is}
use Rattle.benson_life.proofs.eyes.is_liberty.Goals as goal

pub returns-then-is_of_chain : goal.returns-then-is_of_chain
returns-then-is_of_chain c =
    let near = rw (c.size.ensures.columns, ← c.as_slice-near-items.ensures) at c.look_around.ensures.around in
    let next = ((near _).0 (c.loop-near.near-index, c.loop-near-test.true, sym c.near-item.is)).1 in
    let by = liberty_is c.args.board.now c.args.colour c.args.survey.now c.requires.survey c.args.chain c.args.point c.requires.stone
    c.requires.named c.requires.point in
    (λ _. by.0 (c.near-item.result, next, c.is_of_chain.ensures.0 c.if-is_of_chain.true), λ _. refl)

pub returns : goal.returns
returns c = (
  λ e. cc,
  λ l.
      let near = rw (c.size.ensures.columns, ← c.as_slice-near-items.ensures) at c.look_around.ensures.around in
      let (q, next, of) = (liberty_is c.args.board.now c.args.colour c.args.survey.now c.requires.survey c.args.chain c.args.point
      c.requires.stone c.requires.named c.requires.point).1 l in
      let on = ((c.requires.survey.stones q).0 of.0).0 in
      absurd (each_item (λ p. ¬ IsOfChain c.args.survey.now c.args.chain p) _ _ c.loop-near.invariant c.loop-near-test.false q
      ((near q).1 (omega (arith, on, rw c.size.ensures.columns at c.size.ensures.area), next)) of),
)
