use Rattle.std.proofs.Common.{◌∙◌, arith}
use Rattle.local_play.proofs.SetLemmas.{black_gone, white_gone}
use Rattle.local_play.proofs.local.Local.without.Goals as goal

pub returns-in-Black : goal.returns-in-Black
returns-in-Black c cells e stones =
    black_gone c.self.inside.0 cells c.args.gone _ c.args.colour c.in-Black.is (c.self.view_is ∙ e) (omega arith) c.alone.ensures.is c.alone.ensures.small stones

pub returns-in-White : goal.returns-in-White
returns-in-White c cells e stones =
    white_gone c.self.inside.0 cells c.args.gone _ c.args.colour c.in-White.is (c.self.view_is ∙ e) (omega arith) c.alone-in-White.ensures.is c.alone-in-White.ensures.small stones
