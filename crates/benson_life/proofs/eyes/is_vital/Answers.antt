use Rattle.std.proofs.Common.{◌≡◌, ◌∙◌, sym, below_more}
use Rattle.std.proofs.lemmas.Bool.{both_ways}
use Rattle.go_grid.specs.Chain.{IsLiberty}
use Rattle.go_grid.specs.Marks.{IsMarked}
use Rattle.go_grid.specs.Parts.{label}
use Rattle.benson_life.proofs.SurveyLemmas.{region_of, empty_lacks}
use Rattle.benson_life.proofs.eyes.is_vital.Goals as goal
use Rattle.benson_life.proofs.eyes.is_vital.Goals.{else-contains-via-then-contains+then-is+else-not-is_liberty, else-contains-via-then-contains+else-is, else-contains-via-else-contains}

pub returns-then-not-is_liberty : goal.returns-then-not-is_liberty
returns-then-not-is_liberty c =
    let g = c.args.board.now in
    let empty = (c.requires.survey.empties _).0 (c.contains.ensures.0 c.if-contains.true) in
    let same = sym c.label_of.ensures ∙ c.is.ensures.0 c.if-is.true in
    let in' = region_of g c.args.colour c.args.survey.now c.requires.survey c.args.region c.loop-number.number c.requires.lacks
    (empty_lacks g c.args.colour _ empty) (c.requires.region ∙ sym same) in
    (λ t. cc, λ vital. absurd (both_ways _ c.if-not-is_liberty.true (c.is_liberty.ensures.1 (vital _ in' empty))))

pub loop-number-preserved : goal.loop-number-preserved
loop-number-preserved c =
    let s = c.args.survey.now in
    below_more (λ p. IsMarked s.empties p → label s.regions p ≡ c.args.region → IsLiberty c.args.board.now c.args.colour c.args.chain p) _
    c.loop-number.invariant (λ m e.
    elim c.else-contains.branch [
      | else-contains-via-then-contains+then-is+else-not-is_liberty w ↦ w.is_liberty.ensures.0 w.if-not-is_liberty.false
      | else-contains-via-then-contains+else-is w ↦ absurd (both_ways _ w.if-is.false (w.is.ensures.1 (w.label_of.ensures ∙ e)))
      | else-contains-via-else-contains w ↦ absurd (both_ways _ w.if-contains.false (c.contains.ensures.1 m))
    ])
