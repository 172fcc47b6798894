use Rattle.std.proofs.Common.{◌≤◌, length}
use Rattle.octree_build.specs.Slots.{IsGrowing, AreFirsts, waiting}
use Rattle.octree_build.proofs.grow.open_all.Given as goal

abbrev pub invariant-loop-i : goal.invariant-loop-i
invariant-loop-i l = IsGrowing l.bodies l.slots.items l.i × AreFirsts l.bodies l.slots.items l.firsts.items l.i × (l.i ≤ length l.slots.items)

abbrev pub decreases-loop-i : goal.decreases-loop-i
decreases-loop-i l = waiting l.bodies l.slots.items l.i
