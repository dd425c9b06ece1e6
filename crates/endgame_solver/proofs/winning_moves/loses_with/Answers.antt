use Rattle.std.proofs.Common.{◌∙◌, ap, get_or, set}
use Rattle.sum_outcome.proofs.ListLaws.{put_back}
use Rattle.endgame_solver.proofs.winning_moves.loses_with.Goals as goal

pub returns-clause-same : goal.returns-clause-same
returns-clause-same c = ap (λ z. set z c.args.place (get_or c.args.sum.now c.args.place 0)) c.loses-lost.ensures.same
    ∙ put_back c.args.sum.now c.args.place c.args.after
