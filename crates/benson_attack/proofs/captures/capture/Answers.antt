use Rattle.std.proofs.Common.{sym, subst}
use Rattle.std.proofs.lemmas.Bool.{both_ways}
use Rattle.std.proofs.lemmas.Result.{IfOk-from_err}
use Rattle.go_grid.specs.Board.{HasStone, other}
use Rattle.benson_attack.specs.inner.Reached.{Captures}
use Rattle.benson_attack.proofs.CountLemmas.{rises, falls}
use Rattle.benson_attack.proofs.LegalLemmas.{long}
use Rattle.benson_attack.proofs.RunLemmas.{pressed_first, pressed_next, pressed_taken, pressed_held}
use Rattle.benson_attack.proofs.captures.capture.Goals as goal

pub pressing-init : goal.pressing-init
pressing-init c = pressed_first c.args.colour c.args.victim c.args.run.now c.requires

pub pressing-smaller : goal.pressing-smaller
pressing-smaller c =
    let h = c.pressing.run.board in
    let d = c.args.colour in
    let p = c.in-Some.point in
    let m = c.press.new.board in
    let placed = c.in-Some.ensures.2 in
    falls d h m (long h d p m (placed.1.place, placed.1.free) placed.0 placed.1.without) (rises h d p m placed)

pub pressing-preserved : goal.pressing-preserved
pressing-preserved c =
    pressed_next c.args.colour c.args.victim c.args.run.now c.pressing.run
    (record { board = c.press.new.board; placings = c.push.new.self }) c.in-Some.point c.pressing.invariant
    c.in-Some.ensures.0 c.in-Some.ensures.1 c.in-Some.ensures.2 c.in_ok-push-in-Some.ensures.items

pub returns-in-None : goal.returns-in-None
returns-in-None c =
    let v = c.args.victim in
    let stands = subst (λ k. HasStone c.pressing.run.board k v) c.other.ensures (c.holds.ensures.0 c.pressing-test.true) in
    pressed_held c.args.colour v c.args.run.now c.pressing.run c.pressing.invariant stands c.in-None.ensures.1

pub returns : goal.returns
returns c =
    let v = c.args.victim in
    let d = c.args.colour in
    let gone : HasStone c.pressing.run.board (other d) v → ⊥ = λ s.
    both_ways _ c.pressing-test.false (c.holds.ensures.1 (subst (λ k. HasStone c.pressing.run.board k v) (sym c.other.ensures) s)) in
    (pressed_taken d v c.args.run.now c.pressing.run c.pressing.invariant gone, gone)

pub returns-in_err-push-in-Some : goal.returns-in_err-push-in-Some
returns-in_err-push-in-Some c = IfOk-from_err c.from_residual.result (Captures c.args.colour c.args.victim c.args.run.now (record { board = c.press.new.board; placings = c.push.new.self })) c.from_residual.ensures.0
