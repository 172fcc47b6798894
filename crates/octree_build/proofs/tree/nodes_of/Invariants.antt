use Rattle.std.proofs.Common.{List}
use Rattle.nbody_model.specs.Bodies.{BodyData}
use Rattle.nbody_model.specs.Setups.{SetupData}
use Rattle.octree_build.specs.Trees.{IsOver}
use Rattle.octree_build.specs.Slots.{cells_in}
use Rattle.octree_build.specs.Sums.{IsMade}
use Rattle.octree_build.proofs.Made.{HasFirst}
use Rattle.octree_build.proofs.tree.nodes_of.Given as goal

abbrev pub invariant-loop-i : goal.invariant-loop-i
invariant-loop-i l = (s : SetupData) (B : List BodyData) → IsOver s.soft B l.all.bodies.now → IsMade s.soft l.all.bodies.now l.all.slots.now l.all.firsts.now l.raws → HasFirst s B l.all.bodies.now (cells_in l.all.slots.now) l.i l.nodes.items
