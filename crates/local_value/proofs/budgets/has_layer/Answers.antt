use Rattle.std.proofs.Common.{length}
use Rattle.local_value.proofs.LayerLaws.{left-of}
use Rattle.local_value.proofs.budgets.has_layer.Goals as goal

pub returns : goal.returns
returns c = left-of c.is_empty.result (length c.args.layers.now) c.is_empty.ensures
