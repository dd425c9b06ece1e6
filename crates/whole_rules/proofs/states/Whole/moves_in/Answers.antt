use Rattle.std.proofs.Common.{arith, ◌≤◌, length}
use Rattle.std.proofs.lemmas.Bool.{both_ways}
use Rattle.whole_rules.specs.inner.WholeGame.{MovesBelow}
use Rattle.whole_rules.proofs.MoveLaws.{moves_spend, moves_no_spend, moves_half, moves_no_half, same_length}
use Rattle.whole_rules.proofs.states.Whole.moves_in.Goals as goal
use Rattle.whole_rules.proofs.states.Whole.moves_in.Goals.{then-may_spend+in_ok-push, else-may_spend, then-may_halve+in_ok-push-2, else-may_halve}

pub returns : goal.returns
returns c = elim c.if-may_halve.branch [
  | then-may_halve+in_ok-push-2 w ↦
      rw (w.moves-is, w.in_ok-push-2.ensures.items) (moves_half c.args.self.now c.if-may_spend.moves.items spent most (c.may_halve.ensures.0 w.if-may_halve.true))
  | else-may_halve w ↦
      rw w.moves-is (moves_no_half c.args.self.now c.if-may_spend.moves.items spent most (λ h. both_ways _ w.if-may_halve.false (c.may_halve.ensures.1 h)))
]
  where
    most : length c.args.self.now.board.cells ≤ 625
    most = omega (arith, same_length _ c.args.self.now c.self.view_is, c.size-size.ensures.most)

    spent : MovesBelow c.args.self.now 626 c.if-may_spend.moves.items
    spent = elim c.if-may_spend.branch [
      | then-may_spend+in_ok-push w ↦
          rw (w.moves-is, w.in_ok-push.ensures.items) (moves_spend c.args.self.now _ c.in_ok-moves.ensures most (c.may_spend.ensures.0 w.if-may_spend.true))
      | else-may_spend w ↦
          rw w.moves-is (moves_no_spend c.args.self.now _ c.in_ok-moves.ensures most (λ h. both_ways _ w.if-may_spend.false (c.may_spend.ensures.1 h)))
    ]
