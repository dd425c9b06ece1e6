use Rattle.std.proofs.Common.{◌∙◌, sym, subst, arith}
use Rattle.go_grid.specs.Board.{IsUndeclared}
use Rattle.std.proofs.lemmas.Bool.{both_ways, OnFalse_at}
use Rattle.go_grid.specs.Chain.{IsLiberty}
use Rattle.go_grid.specs.Marks.{Marks}
use Rattle.go_play.specs.Place.{IsSuicide}
use Rattle.benson_attack.proofs.RunLemmas.{presses_at, two_refused, refused_more}
use Rattle.benson_attack.proofs.captures.press.Goals as goal
use Rattle.benson_attack.proofs.captures.press.Goals.{else-contains-via-then-contains+else-try_press, else-contains-via-else-contains}

pub loop-number-preserved : goal.loop-number-preserved
loop-number-preserved c =
    let g = c.args.board.now in
    let d = c.args.colour in
    let v = c.args.victim in
    let n = c.loop-number.number in
    let below = c.loop-number.invariant in
    let marks = subst (λ k. Marks c.liberties-liberties.result (IsLiberty g k v)) c.other.ensures c.liberties-liberties.ensures in
    elim c.else-contains.branch [
      | else-contains-via-then-contains+else-try_press w ↦
          let tried = OnFalse_at w.if-try_press.false w.try_press.ensures.refused in (
            w.board-is ∙ tried.0 ∙ below.0,
            refused_more g d v n below.1 (λ _ outside. subst (λ b. IsSuicide b n d) below.0 (tried.1 (subst (λ b. IsUndeclared b n) (sym below.0) outside))),
          )
      | else-contains-via-else-contains w ↦ (
        w.board-is ∙ below.0,
        refused_more g d v n below.1 (λ l _. absurd (both_ways _ w.if-contains.false (c.contains.ensures.1 ((marks n).1 l)))),
      )
    ]

pub returns-then-try_press : goal.returns-then-try_press
returns-then-try_press c =
    let g = c.args.board.now in
    let v = c.args.victim in
    let marks = subst (λ k. Marks c.liberties-liberties.result (IsLiberty g k v)) c.other.ensures c.liberties-liberties.ensures in
    presses_at c.args.colour v g c.loop-number.board c.try_press.new.board c.loop-number.number c.liberties-liberties.result marks
    (c.contains.ensures.0 c.if-contains.true) c.loop-number.invariant.0 (c.if-try_press.ensures {u = tt}).placed.0 (c.if-try_press.ensures {u = tt}).placed.1

pub returns : goal.returns
returns c =
    let g = c.args.board.now in
    let v = c.args.victim in
    let marks = subst (λ k. Marks c.liberties-liberties.result (IsLiberty g k v)) c.other.ensures c.liberties-liberties.ensures in (
      c.loop-number.invariant.0,
      two_refused g c.args.colour v c.liberties-liberties.result marks (λ p l. c.loop-number.invariant.1 p
          (omega (arith, c.loop-number-test.false, c.area-number-end.ensures.value, c.size.ensures.area, l.0.0)) l),
    )
