use Rattle.local_trees.proofs.TreeLaws.{trees-exist, depths-agree, trees-same}
use Rattle.std.proofs.Common.{List}
use Rattle.go_grid.specs.declared.grid.Cell.{Cell}
use Rattle.local_trees.specs.PositionTree.{IsStep}
use Rattle.local_trees.proofs.laws.position_tree_laws.Goals as goal

pub returns : goal.returns
returns c = record {
  exist = trees-exist;
  one = λ touch cells n G H. trees-same (List Cell) (IsStep touch) n cells G H;
  depth = λ touch cells n m G H s t g h. depths-agree (List Cell) (IsStep touch) n m cells G H s t g h;
}
