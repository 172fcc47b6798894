use Rattle.std.proofs.Common.{◌-◌, length}
use Rattle.octree_build.specs.Slots.{cells_in}
use Rattle.octree_build.specs.Sums.{AreSums}
use Rattle.octree_build.proofs.sums.sums.Given as goal

abbrev pub invariant-loop-done : goal.invariant-loop-done
invariant-loop-done l = AreSums l.soft l.all.bodies.now (cells_in l.all.slots.now) (length l.all.slots.now - l.done) l.raws.items
