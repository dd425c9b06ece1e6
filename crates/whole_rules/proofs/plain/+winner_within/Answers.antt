use Rattle.std.proofs.Common.{arith, sym, inl, inr, ap, ◌∙◌, subst, ◌<◌, ◌≡◌, ◌≢◌, ◌-◌, length, None}
use Rattle.go_grid.specs.Board.{other}
use Rattle.std.proofs.lemmas.Bool.{both_ways}
use Rattle.std.proofs.lemmas.List.{get_or_default}
use Rattle.whole_rules.specs.PlainRecursion.{LosesWithin}
use Rattle.whole_rules.specs.PlainWinner.{IsOutcome}
use Rattle.whole_rules.specs.WholeGame.{Whole, Leads, IsMove, ListsMoves}
use Rattle.whole_rules.specs.declared.states.Move.TheVariants.{Half}
use Rattle.whole_rules.proofs.PlainLaws.{none_lost, some_open, listed_legal, move_grows, outcome_mine, outcome_theirs, looked_wins, looked_open, looked_done}
use Rattle.whole_rules.proofs.plain.+winner_within.Goals as goal
use Rattle.whole_rules.proofs.plain.+winner_within.Goals.{in-Some+else-is, in-None}

pub returns-then-is_empty : goal.returns-then-is_empty
returns-then-is_empty t c =
    let z : c.args.depth ≡ 0 = omega (arith, c.if-depth-eq0.true) in
    let e : length c.in_ok-moves.moves.items ≡ 0 = grind (arith, c.is_empty.ensures, c.if-is_empty.true) in
    inr (c.other.ensures ∙ ap other c.side-side.ensures, subst (λ n. LosesWithin Whole Leads n c.args.state.now) (sym z) (none_lost c.args.state.now c.in_ok-moves.moves.items e c.in_ok-moves.ensures))

pub returns-then-depth-eq0 : goal.returns-then-depth-eq0
returns-then-depth-eq0 t c =
    let z : c.args.depth ≡ 0 = omega (arith, c.if-depth-eq0.true) in
    let e : length c.in_ok-moves.moves.items ≢ 0 = λ k. grind (arith, c.is_empty.ensures, c.if-is_empty.false, k) in
    subst (λ n. IsOutcome n c.args.state.now None) (sym z) (some_open c.args.state.now c.in_ok-moves.moves.items e c.in_ok-moves.ensures)

pub after-requires-clause-legal : goal.after-requires-clause-legal
after-requires-clause-legal t c =
    listed_legal c.args.state.now c.deref-chosen-items.result.now c.loop-chosen.chosen-index c.chosen-item.result (omega (arith, c.loop-chosen-test.true)) (c.chosen-item.is ∙ get_or_default c.deref-chosen-items.result.now c.loop-chosen.chosen-index _ Half (omega (arith, c.loop-chosen-test.true)))
    (subst (ListsMoves c.args.state.now) (sym c.deref-chosen-items.ensures.value) c.in_ok-moves.ensures)

pub winner_within-requires : goal.winner_within-requires
winner_within-requires t c =
    let g = move_grows c.args.state.now c.in_ok-next.next c.chosen-item.result (omega (arith, c.size-size.ensures.most, ap (λ b. length b.cells) c.board.ensures)) c.in_ok-next.ensures in
    (omega (arith, c.if-depth-eq0.false, c.decreases), (omega (arith, g.black, c.requires.black, c.if-depth-eq0.false), omega (arith, g.white, c.requires.white, c.if-depth-eq0.false)))

pub returns-then-is : goal.returns-then-is
returns-then-is t c =
    let d : 0 < c.args.depth = omega (arith, c.if-depth-eq0.false) in
    let same = c.is.ensures.0 c.if-is.true ∙ c.side-side.ensures in
    inl (c.side-side.ensures, outcome_mine c.args.state.now c.in_ok-next.next c.chosen-item.result c.args.depth c.in-Some.winner d c.in_ok-next.ensures (rw c.in-Some.is at c.in_ok-winner.ensures) same)

pub loop-chosen-preserved : goal.loop-chosen-preserved
loop-chosen-preserved t c =
    let s = c.args.state.now in
    let n = c.args.depth - 1 in
    let ms = c.deref-chosen-items.result.now in
    let k = c.loop-chosen.chosen-index in
    let m = subst (λ z. IsMove s z c.in_ok-next.next) (c.chosen-item.is ∙ get_or_default ms k _ Half (omega (arith, c.loop-chosen-test.true))) c.in_ok-next.ensures in
    elim c.match-branch-4.branch [
      | in-Some+else-is w ↦
          rw w.decided-is (looked_wins s c.in_ok-next.next n ms k _ c.loop-chosen.invariant m
          (outcome_theirs s c.in_ok-next.next c.chosen-item.result n w.in-Some.winner c.in_ok-next.ensures (rw w.in-Some.is at c.in_ok-winner.ensures)
          (λ e. both_ways _ w.if-is.false (w.is.ensures.1 (e ∙ sym c.side-side.ensures)))))
      | in-None w ↦ (let o = rw w.in-None.is at c.in_ok-winner.ensures in rw w.decided-is (looked_open s c.in_ok-next.next n ms k _ c.loop-chosen.invariant m o.0 o.1))
    ]

pub returns-then-decided : goal.returns-then-decided
returns-then-decided t c =
    let r = looked_done c.args.state.now c.args.depth c.loop-chosen.chosen-index c.deref-chosen-items.result.now c.loop-chosen.decided (omega (arith, c.if-depth-eq0.false)) c.loop-chosen.invariant (omega (arith, c.loop-chosen-test.false))
    (subst (ListsMoves c.args.state.now) (sym c.deref-chosen-items.ensures.value) c.in_ok-moves.ensures) in
    inr (c.other-then-decided.ensures ∙ ap other c.side-side.ensures, r.0 c.if-decided.true)

pub returns : goal.returns
returns t c =
    let r = looked_done c.args.state.now c.args.depth c.loop-chosen.chosen-index c.deref-chosen-items.result.now c.loop-chosen.decided (omega (arith, c.if-depth-eq0.false)) c.loop-chosen.invariant (omega (arith, c.loop-chosen-test.false))
    (subst (ListsMoves c.args.state.now) (sym c.deref-chosen-items.ensures.value) c.in_ok-moves.ensures) in
    r.1 c.if-decided.false
