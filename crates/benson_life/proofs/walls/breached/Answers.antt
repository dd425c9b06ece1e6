use Rattle.benson_life.proofs.SurveyLemmas.{walled_is}
use Rattle.benson_life.proofs.walls.breached.Goals as goal

pub returns : goal.returns
returns c r lacks =
    walled_is c.args.board.now c.args.colour c.args.survey.now c.requires c.args.kept.now c.difference-struck.result
    c.labels_beside.result r c.difference-struck.ensures
    (rw c.size.ensures.columns at c.labels_beside.ensures) lacks
