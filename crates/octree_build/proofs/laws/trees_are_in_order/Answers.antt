use Rattle.octree_build.proofs.Asked.{tree_order}
use Rattle.octree_build.proofs.laws.trees_are_in_order.Goals as goal

pub returns : goal.returns
returns c = tree_order
