use mir.Syntax.{w64}
use Rattle.std.proofs.Common.{◌≡◌, ◌≢◌, ◌∙◌, ◌<◌, ◌≤◌, ◌^◌, ℤ, unsigned_abs, pos, ◌+ℤ◌, ◌-ℤ◌, [], IsTrue, arith, length, refl, sym, ap, subst, to_z, of_z}
use Rattle.std.proofs.lemmas.Bool.{eqb-true, false≢true}
use Rattle.std.proofs.lemmas.Int.{ints, to_z-of_z}
use Rattle.std.specs.Bool.{◌==◌}
use Rattle.std.specs.Vec.{vec_len}
use Rattle.go_grid.specs.declared.grid.Colour.TheVariants.{Black, White}
use Rattle.endgame_solver.specs.PlayLine.{IsLineFrom}
use Rattle.endgame_solver.specs.Thresholds.{IsThresholdFrom}
use Rattle.report.proofs.ScoreLaws.{fraction_scored, halves_scored, stone_scored}
use Rattle.report.proofs.score.score_of.Goals as goal

pub returns-then-not-is_empty-clause-score : goal.returns-then-not-is_empty-clause-score
returns-then-not-is_empty-clause-score c =
    let now = c.args.solved.now in let k = c.args.komi_halves in let items = c.in_ok-line.line.items in
    let same = c.threshold-white.ensures.same ∙ c.threshold-black.ensures.same in
    let some : vec_len c.in_ok-line.line ≢ 0 = λ e. false≢true (c.if-not-is_empty.ensures {u = tt} ∙ ap (λ n. n == 0) e) in
    stone_scored now.regions now.state k items c.index.result.now (omega (arith, some, c.in_ok-line.line.ok)) c.index.ensures
    (subst (λ v. IsLineFrom v.regions v.state k items) same (c.in_ok-line.ensures.line k))

pub returns-then-is_half_above-clause-score : goal.returns-then-is_half_above-clause-score
returns-then-is_half_above-clause-score c =
    let now = c.args.solved.now in let k = c.args.komi_halves in let items = c.in_ok-line.line.items in
    let black = c.threshold-black.result in let white = c.threshold-white.result in
    let first = c.threshold-black.ensures.same in
    let same = c.threshold-white.ensures.same ∙ first in
    let komi = to_z-of_z w64 k c.ranges.komi_halves in
    let b = to_z-of_z w64 black (record { sfits = c.threshold-black.type_inv }) in
    let w = to_z-of_z w64 white (record { sfits = c.threshold-white.type_inv }) in
    let none : vec_len c.in_ok-line.line ≡ 0 = eqb-true (vec_len c.in_ok-line.line) 0 (sym (c.if-not-is_empty.ensures {u = tt})) in
    let half = (c.if-is_half_above.ensures {u = tt}).0 refl in
    halves_scored now.regions now.state k items (omega (arith, none, c.in_ok-line.line.ok))
    (subst (λ v. IsLineFrom v.regions v.state k items) same (c.in_ok-line.ensures.line k)) black white
    (subst (λ z. IsThresholdFrom now.state z Black [] black) komi c.threshold-black.ensures.threshold)
    (subst (λ T. T) (λ i. IsThresholdFrom (first i).state (komi i) White [] white) c.threshold-white.ensures.threshold) _
    (sym w ∙ half ∙ ap (λ z. z +ℤ pos 1) b)
    (to_z-of_z w64 c.above.result (record { sfits = c.above.type_inv }) ∙ c.above.ensures ∙ (λ i. w i -ℤ komi i))

pub returns-then-is_half_above-clause-told : goal.returns-then-is_half_above-clause-told
returns-then-is_half_above-clause-told c =
    let white = c.threshold-white.result in
    let komi = to_z-of_z w64 c.args.komi_halves c.ranges.komi_halves in
    let w = to_z-of_z w64 white (record { sfits = c.threshold-white.type_inv }) in
    let small = c.threshold-white.ensures.small (subst (λ k. unsigned_abs k ≤ 2 ^ 24) (sym komi) c.requires.komi) in
    subst (λ n. unsigned_abs n ≤ 2 ^ 48) (sym (to_z-of_z w64 c.above.result (record { sfits = c.above.type_inv }) ∙ c.above.ensures ∙ (λ i. w i -ℤ komi i)))
    (omega (arith, ints, small, c.requires.komi))

pub returns-clause-score : goal.returns-clause-score
returns-clause-score c =
    let now = c.args.solved.now in let k = c.args.komi_halves in let items = c.in_ok-line.line.items in
    let black = c.threshold-black.result in let white = c.threshold-white.result in
    let first = c.threshold-black.ensures.same in
    let same = c.threshold-white.ensures.same ∙ first in
    let komi = to_z-of_z w64 k c.ranges.komi_halves in
    let b = to_z-of_z w64 black (record { sfits = c.threshold-black.type_inv }) in
    let w = to_z-of_z w64 white (record { sfits = c.threshold-white.type_inv }) in
    let none : vec_len c.in_ok-line.line ≡ 0 = eqb-true (vec_len c.in_ok-line.line) 0 (sym (c.if-not-is_empty.ensures {u = tt})) in
    fraction_scored now.regions now.state k items (omega (arith, none, c.in_ok-line.line.ok))
    (subst (λ v. IsLineFrom v.regions v.state k items) same (c.in_ok-line.ensures.line k)) black white
    (subst (λ z. IsThresholdFrom now.state z Black [] black) komi c.threshold-black.ensures.threshold)
    (subst (λ T. T) (λ i. IsThresholdFrom (first i).state (komi i) White [] white) c.threshold-white.ensures.threshold)
    (λ e. false≢true ((c.if-is_half_above.ensures {u = tt}).1 (w ∙ e ∙ ap (λ z. z +ℤ pos 1) (sym b))))
