use Rattle.std.proofs.Common.{ℕ}
use Rattle.go_grid.specs.Marks.{IsMarked}
use Rattle.go_grid.specs.Parts.{label}
use Rattle.benson_life.proofs.EyesLemmas.{some_is}
use Rattle.benson_life.proofs.EyeListLemmas.{eyes_inside}
use Rattle.benson_life.proofs.StrikingLemmas.{alive_stone, alive_whole, counted_same}
use Rattle.benson_life.proofs.counted_points.counted_points.Goals as goal

pub eyes_of-found-requires : goal.eyes_of-found-requires
eyes_of-found-requires c =
    eyes_inside c.args.board.now c.args.colour c.args.survey.now c.args.eyes.now c.requires.eyes c.size-size.ensures.most

pub returns : goal.returns
returns c =
    let g = c.args.board.now in
    let col = c.args.colour in
    let s = c.args.survey.now in
    let is = c.requires.survey in
    let alive = c.args.alive.now in
    let stones = λ (t : ℕ) (m : IsMarked alive t). alive_stone g col t ((c.requires.alive t).0 m) in
    let whole : (t : ℕ) → IsMarked alive t → IsMarked alive (label s.chains t) = λ t m.
    (c.requires.alive _).1 (alive_whole g col t _ ((c.requires.alive t).0 m) (is.chains.joined t (stones t m))) in
    let some = some_is g col s is c.args.eyes.now c.requires.eyes c.breached-breached.result (IsMarked alive) c.breached-breached.ensures in
    counted_same g col alive c.labelled-in_eyes.result c.with_declared.result c.requires.alive (λ p.
    let w = c.labelled-in_eyes.ensures p in (
      λ m.
          let h = w.0 m in
          let lacks = (is.lacking p).0 h.0 in
          (lacks, (some p lacks stones whole).0 ((c.eyes_of-found.ensures _).0 h.1)),
      λ h. w.1 ((is.lacking p).1 h.0, (c.eyes_of-found.ensures _).1 ((some p h.0 stones whole).1 h.1)),
    )) c.with_declared.ensures
