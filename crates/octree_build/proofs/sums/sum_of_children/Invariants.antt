use Rattle.std.proofs.Common.{◌≡◌, List, ℕ, take}
use Rattle.std.specs.List.{flat_map}
use Rattle.nbody_model.specs.Bodies.{BodyData}
use Rattle.nbody_model.specs.Nodes.{members, positions_of}
use Rattle.node_moments.specs.Sums.{raw_of}
use Rattle.octree_build.specs.Trees.{opened}
use Rattle.octree_build.specs.Sums.{HaveChildSums}
use Rattle.octree_build.proofs.sums.sum_of_children.Given as goal

abbrev pub invariant-loop-j : goal.invariant-loop-j
invariant-loop-j l = (soft : List ℕ) (S : List BodyData) → HaveChildSums soft S l.cell l.raws l.top l.number → l.sum ≡ raw_of soft l.cell (flat_map (members S) (take l.j (opened (positions_of S) l.cell)))
