use Rattle.octree_build.proofs.Asked.{tree_few}
use Rattle.octree_build.proofs.laws.trees_are_small.Goals as goal

pub returns : goal.returns
returns c = tree_few
