use Rattle.std.proofs.Common.{◌+◌, subst, sym, arith}
use Rattle.std.proofs.lemmas.Bool.{both_ways}
use Rattle.go_grid.specs.Chain.{InChain}
use Rattle.go_grid.specs.Board.{HasStone}
use Rattle.go_grid.specs.Marks.{Marks}
use Rattle.benson_attack.specs.inner.Reached.{AreTriedBelow}
use Rattle.benson_attack.proofs.RunLemmas.{failed_copy, taken_copy}
use Rattle.benson_attack.proofs.TriedLemmas.{tried_first, tried_skip, tried_more, tried_all}
use Rattle.benson_attack.proofs.captures.advance.Goals as goal
use Rattle.benson_attack.proofs.captures.advance.Goals.{then-contains+in_ok-trial+in_ok-capture+else-branch, else-contains}

pub loop-number-init : goal.loop-number-init
loop-number-init c =
    let marks = subst (λ k. Marks c.stones.result (HasStone c.args.run.now.board k)) c.other.ensures c.stones.ensures in
    tried_first c.args.colour c.args.alive.now c.difference-left.result c.args.run.now c.stones.result marks c.difference-left.ensures

pub loop-number-preserved : goal.loop-number-preserved
loop-number-preserved c =
    let d = c.args.colour in
    let alive = c.args.alive.now in
    let run = c.args.run.now in
    let n = c.loop-number.number in
    elim c.if-contains.branch [
      | then-contains+in_ok-trial+in_ok-capture+else-branch w ↦
          let chain = subst (λ k. Marks w.chain.result (InChain run.board k n)) w.other-then-contains.ensures w.chain.ensures in
          subst (λ x. AreTriedBelow d alive x run (n + 1)) (sym w.left-is)
          (tried_more d alive c.loop-number.left run n w.chain.result w.difference-left-then-contains.result c.loop-number.invariant
          (λ g settled marks. failed_copy d n run w.in_ok-trial.trial w.capture.new.run w.in_ok-capture.field-0 w.in_ok-trial.ensures.0
          w.in_ok-trial.ensures.1 w.in_ok-capture.ensures w.if-branch.false g settled.closed)
          chain w.difference-left-then-contains.ensures)
      | else-contains w ↦ subst (λ x. AreTriedBelow d alive x run (n + 1)) (sym w.left-is)
          (tried_skip d alive c.loop-number.left run n c.loop-number.invariant
          (λ m. both_ways _ w.if-contains.false (c.contains.ensures.1 m)))
    ]

pub returns-then-branch : goal.returns-then-branch
returns-then-branch c = taken_copy c.args.colour c.loop-number.number c.args.run.now c.in_ok-trial.trial c.capture.new.run c.in_ok-capture.field-0
    c.in_ok-trial.ensures.0 c.in_ok-trial.ensures.1 c.in_ok-capture.ensures c.if-branch.true

pub returns : goal.returns
returns c =
    let run = c.args.run.now in
    let marks = subst (λ k. Marks c.stones.result (HasStone run.board k)) c.other.ensures c.stones.ensures in
    tried_all c.args.colour c.args.alive.now c.loop-number.left run c.loop-number.number c.stones.result c.loop-number.invariant
    (omega (arith, c.loop-number-test.false, c.area-number-end.ensures.value, c.size.ensures.area)) marks
