use Rattle.std.proofs.Common.{◌↔◌, ◌/◌, sym, subst, ◌∙◌}
use Rattle.local_play.specs.LocalPlay.{Holds}
use Rattle.local_play.specs.Places.{HasBit}
use Rattle.local_play.proofs.PackBitLemmas.{black_stones, white_stones}
use Rattle.local_play.proofs.local.Local.stones.Goals as goal

pub returns-in-Black : goal.returns-in-Black
returns-in-Black c cells e q =
    subst (λ x. HasBit c.self.inside.0 q ↔ Holds cells x q) (sym c.in-Black.is) (black_stones c.self.inside.0 cells q (c.self.view_is ∙ e))

pub returns-in-White : goal.returns-in-White
returns-in-White c cells e q =
    subst (λ x. HasBit (c.self.inside.0 / 2) q ↔ Holds cells x q) (sym c.in-White.is) (white_stones c.self.inside.0 cells q (c.self.view_is ∙ e))
