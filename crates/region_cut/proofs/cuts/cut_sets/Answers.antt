use Rattle.std.proofs.Common.{arith, sym, ◌∙◌}
use Rattle.std.proofs.lemmas.Bool.{both_ways}
use Rattle.go_grid.proofs.WalkLemmas.{joined_end}
use Rattle.benson_life.specs.Region.{IsContested}
use Rattle.region_cut.proofs.CutLemmas.{cut_all, cut_push, cut_skip, lowest_is, parts_of}
use Rattle.region_cut.proofs.LocalBoardLemmas.{plays_locally}
use Rattle.region_cut.proofs.cuts.cut_sets.Goals as goal
use Rattle.region_cut.proofs.cuts.cut_sets.Goals.{then-contains+then-is+in_ok-region_of+in_ok-push, else-contains, else-contains-via-then-contains+else-is, else-contains-via-else-contains}

pub region_of-requires-clause-contested : goal.region_of-requires-clause-contested
region_of-requires-clause-contested c = (c.requires.within c.cutting.number).0 (c.contains.ensures.0 c.if-contains.true)

pub region_of-requires-clause-lowest : goal.region_of-requires-clause-lowest
region_of-requires-clause-lowest c p j =
    let g = c.args.board.now in
    let are = parts_of g c.args.within.now c.size-size.ensures.columns c.requires.within c.components-parts.ensures in
    lowest_is g _ _ p are (sym c.label_of.ensures ∙ c.is.ensures.0 c.if-is.true) (joined_end g.columns (IsContested g) c.cutting.number p j) j

pub cutting-preserved : goal.cutting-preserved
cutting-preserved c =
    let are = parts_of c.args.board.now c.args.within.now c.size-size.ensures.columns c.requires.within c.components-parts.ensures in
    elim c.if-contains.branch [
      | then-contains+then-is+in_ok-region_of+in_ok-push w ↦
          let made = w.in_ok-region_of.ensures in
          rw (w.regions-is, w.in_ok-push.ensures.items)
          (cut_push are c.cutting.invariant _ (record { play = made.region; walled = made.walled }) made.named)
      | else-contains w ↦
          rw w.regions-is
          (cut_skip are c.cutting.invariant (λ h e.
          elim w.else-contains.branch [
            | else-contains-via-then-contains+else-is w' ↦ both_ways _ w'.if-is.false (w'.is.ensures.1 (w'.label_of.ensures ∙ e))
            | else-contains-via-else-contains w' ↦ both_ways _ w'.if-contains.false (c.contains.ensures.1 ((c.requires.within _).1 h))
          ]))
    ]

pub returns-clause-regions : goal.returns-clause-regions
returns-clause-regions c =
    let are = parts_of c.args.board.now c.args.within.now c.size-size.ensures.columns c.requires.within c.components-parts.ensures in
    cut_all are c.cutting.invariant (omega (arith, c.size-size.ensures.area, c.area-number-end.ensures.value))

pub returns-clause-walled : goal.returns-clause-walled
returns-clause-walled c r h = (c.cutting.invariant.each r h).0.walled

pub returns-clause-local : goal.returns-clause-local
returns-clause-local c r h = plays_locally c.args.board.now r c.requires.settled (c.cutting.invariant.each r h).0.play
