use Rattle.std.proofs.Common.{◌∙◌, ap, get_or, subst}
use Rattle.sgf_go.specs.Values.{trimmed}
use Rattle.sgf_go.specs.Territory.{Names, NamesNothing}
use Rattle.sgf_go.specs.inner.Territory.{Adds}
use Rattle.sgf_go.proofs.MarkLemmas.{adds_through, gathers_bad, gathers_step}
use Rattle.sgf_go.proofs.marks.mark_values.Goals as goal

pub returns-then-not-mark_value-clause-bad : goal.returns-then-not-mark_value-clause-bad
returns-then-not-mark_value-clause-bad c =
    let g = c.args.board.now in
    gathers_bad (λ p v. Names g p (trimmed v.items)) (λ v. NamesNothing g (trimmed v.items)) c.args.values.now c.args.points.now c.loop-at.at c.index-values-at.result c.loop-at.points c.loop-at-test.true c.loop-at.invariant
    (subst (λ v. NamesNothing g (trimmed v)) (c.deref.ensures.value ∙ ap (λ v. v.items) c.index-values-at.is) (c.if-not-mark_value.ensures {u = tt}).bad)

pub loop-at-preserved : goal.loop-at-preserved
loop-at-preserved c =
    let g = c.args.board.now in
    gathers_step (λ p v. Names g p (trimmed v.items)) (λ v. NamesNothing g (trimmed v.items)) c.args.values.now c.args.points.now c.loop-at.at c.index-values-at.result c.loop-at.points c.loop-at-test.true c.loop-at.invariant c.mark_value.new.points
    (adds_through (Names g) (NamesNothing g) (λ v. trimmed v.items) (get_or c.args.values.now c.loop-at.at c.index-values-at.result) c.loop-at.points c.mark_value.new.points
    (subst (λ v. Adds (Names g) (NamesNothing g) (trimmed v) c.loop-at.points c.mark_value.new.points) (c.deref.ensures.value ∙ ap (λ v. v.items) c.index-values-at.is) (c.if-not-mark_value.ensures {u = tt}).added))
