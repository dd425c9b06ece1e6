use Rattle.std.proofs.lemmas.Bool.{both_ways}
use Rattle.go_grid.specs.Board.{HasStone, Lacks}
use Rattle.benson_life.proofs.PartsLemmas.{label_in, label_own}
use Rattle.benson_life.proofs.SurveyLemmas.{empty_lacks}
use Rattle.benson_life.proofs.EyesLemmas.{one_eye, no_eye}
use Rattle.benson_life.proofs.eyes.add_eye.Goals as goal

pub is_vital-requires : goal.is_vital-requires
is_vital-requires c =
    let g = c.args.board.now in
    let s = c.args.survey.now in
    let is = c.requires.survey in
    let lacks = empty_lacks g c.args.colour c.args.point c.requires.point in
    let stone = (is.stones _).0 (c.contains.ensures.0 c.if-contains.true) in
    rw (c.label_of-region.ensures, c.label_of-chain.ensures)
    (record {
      survey = is;
      lacks = label_in g.columns (Lacks g c.args.colour) s.regions c.args.point is.regions lacks;
      region = label_own g.columns (Lacks g c.args.colour) s.regions c.args.point is.regions lacks;
      stone = label_in g.columns (HasStone g c.args.colour) s.chains c.args.near is.chains stone;
      chain = label_own g.columns (HasStone g c.args.colour) s.chains c.args.near is.chains stone;
    })

pub returns-in_ok-push : goal.returns-in_ok-push
returns-in_ok-push c =
    one_eye c.args.board.now c.args.colour c.args.survey.now c.requires.survey c.args.eyes.now.items c.push.new.self.items
    c.args.point c.args.near c.requires.point (c.contains.ensures.0 c.if-contains.true)
    (rw (c.label_of-region.ensures, c.label_of-chain.ensures) at (c.is_vital.ensures.0 c.if-is_vital.true))
    (rw (c.label_of-region.ensures, c.label_of-chain.ensures) at c.in_ok-push.ensures.items)

pub returns-else-is_vital : goal.returns-else-is_vital
returns-else-is_vital c =
    no_eye c.args.board.now c.args.colour c.args.survey.now c.requires.survey c.args.eyes.now.items c.args.point c.args.near
    (λ m vital. both_ways _ c.if-is_vital.false
    (c.is_vital.ensures.1 (rw (c.label_of-region.ensures, c.label_of-chain.ensures) vital)))

pub returns-else-contains : goal.returns-else-contains
returns-else-contains c =
    no_eye c.args.board.now c.args.colour c.args.survey.now c.requires.survey c.args.eyes.now.items c.args.point c.args.near
    (λ m. absurd (both_ways _ c.if-contains.false (c.contains.ensures.1 m)))
