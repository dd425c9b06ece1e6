use Rattle.region_book.proofs.ShapeLaws.{pairs_places, tells_shapes}
use Rattle.region_book.proofs.laws.one_shape.Goals as goal

pub returns-clause-same : goal.returns-clause-same
returns-clause-same c = tells_shapes

pub returns-clause-pairs : goal.returns-clause-pairs
returns-clause-pairs c = pairs_places
