use Rattle.octree_build.proofs.Seen.{limited}
use Rattle.octree_build.proofs.tree.nodes_along.Goals as goal

pub grow-requires-clause-few : goal.grow-requires-clause-few
grow-requires-clause-few c = (limited c.args.soft.now c.requires.whole.whole c.args.bodies.now c.requires.whole.over).few
