use Rattle.std.proofs.Common.{◌∙◌}
use Rattle.local_play.proofs.SetLemmas.{black_added, white_added}
use Rattle.local_play.proofs.local.Local.with_stone.Goals as goal

pub returns-in-Black : goal.returns-in-Black
returns-in-Black c cells e lt empty =
    black_added c.self.inside.0 cells c.args.place c.args.colour c.in-Black.is (c.self.view_is ∙ e) c.requires lt empty

pub returns-in-White : goal.returns-in-White
returns-in-White c cells e lt empty =
    white_added c.self.inside.0 cells c.args.place c.args.colour c.in-White.is (c.self.view_is ∙ e) c.requires lt empty
