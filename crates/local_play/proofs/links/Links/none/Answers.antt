use Rattle.std.proofs.Common.{refl}
use Rattle.local_play.proofs.LinkLemmas.{table_start}
use Rattle.local_play.proofs.links.Links.none.Goals as goal

pub returns : goal.returns
returns c touch =
    table_start touch _ c.none.result c.none.ensures refl c.none-2.ensures c.none-3.ensures c.none-4.ensures
