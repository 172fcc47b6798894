use Rattle.std.proofs.Common.{◌≡◌, ◌++◌, ◌-◌, length, take}
use Rattle.std.specs.List.{flat_map}
use Rattle.nbody_model.specs.Nodes.{members, positions_of}
use Rattle.octree_build.specs.Trees.{NodeData, cell_of_node, opened}
use Rattle.neighbour_find.specs.Around.{found}
use Rattle.neighbour_find.proofs.walk.+visit.Given as goal

abbrev pub decreases-visit : goal.decreases-visit
decreases-visit l = length l.tree.now.nodes - l.i

abbrev pub invariant-loop-k : goal.invariant-loop-k
invariant-loop-k l = (d : NodeData) → l.out.items ≡ l.fn.out.items ++ found l.around (flat_map (members l.tree.bodies) (take (l.k - l.first) (opened (positions_of l.tree.bodies) (cell_of_node l.tree.nodes l.i d))))
