use mir.Val.{SFits}
use mir.Syntax.{w64}
use Rattle.std.proofs.Common.{◌∙◌, ◌∷◌, [], ap, refl, rules, subst, sym, to_z, of_z}
use Rattle.std.proofs.lemmas.Bool.{false≢true}
use Rattle.std.proofs.lemmas.Int.{to_z-of_z}
use Rattle.endgame_solver.specs.Thresholds.{IsThresholdFrom}
use Rattle.report.specs.declared.top_stones.RatedStone.{RatedStone}
use Rattle.report.specs.TopStones.{IsAhead, IsBehind, IsRated}
use Rattle.report.proofs.TopStonesLaws.{best_gives_way, best_stays}
use Rattle.report.proofs.top_stones.better_at.Goals.{else-is_behind-via-then-is_behind+else-is_ahead, else-is_behind-via-else-is_behind}
use Rattle.report.proofs.top_stones.better_at.Goals as goal

pub returns-then-is_ahead-clause-best : goal.returns-then-is_ahead-clause-best
returns-then-is_ahead-clause-best c =
    let s = c.args.solved.now.state in let k = c.args.komi_halves in let p = c.args.point in
    let found = c.in-Some.threshold in
    let fits : SFits w64 found = search rules in
    let r : RatedStone = record { threshold = to_z w64 (of_z w64 found); point = p } in
    let (legal, threshold) = (c.in-Some.ensures {u = tt}).threshold in
    let komi = to_z-of_z w64 k c.ranges.komi_halves in
    let rated : IsRated s k r = record {
      legal = legal;
      threshold = subst (λ T. T) (λ i. IsThresholdFrom s (komi i) s.side (p ∷ []) (sym (to_z-of_z w64 found fits) i)) threshold;
    } in
    let turn = c.side-side.ensures ∙ ap (λ w. w.side) c.whole.ensures in
    best_gives_way c.requires.best refl rated (subst (λ d. IsBehind d c.args.last.now r) turn ((c.if-is_behind.ensures {u = tt}).0 refl))
    (subst (λ d. IsAhead d r c.args.best) turn ((c.if-is_ahead.ensures {u = tt}).0 refl))

pub returns-clause-best : goal.returns-clause-best
returns-clause-best c =
    let s = c.args.solved.now.state in let k = c.args.komi_halves in let p = c.args.point in
    let found = c.in-Some.threshold in
    let fits : SFits w64 found = search rules in
    let r : RatedStone = record { threshold = to_z w64 (of_z w64 found); point = p } in
    let (legal, threshold) = (c.in-Some.ensures {u = tt}).threshold in
    let komi = to_z-of_z w64 k c.ranges.komi_halves in
    let rated : IsRated s k r = record {
      legal = legal;
      threshold = subst (λ T. T) (λ i. IsThresholdFrom s (komi i) s.side (p ∷ []) (sym (to_z-of_z w64 found fits) i)) threshold;
    } in
    let turn = sym (c.side-side.ensures ∙ ap (λ w. w.side) c.whole.ensures) in
    best_stays c.requires.best refl rated (λ (behind, ahead). elim c.else-is_behind.branch [
      | else-is_behind-via-then-is_behind+else-is_ahead w ↦ false≢true ((w.if-is_ahead.ensures {u = tt}).1 (subst (λ d. IsAhead d r c.args.best) turn ahead))
      | else-is_behind-via-else-is_behind w ↦ false≢true ((w.if-is_behind.ensures {u = tt}).1 (subst (λ d. IsBehind d c.args.last.now r) turn behind))
    ])
