use Rattle.octree_build.proofs.Numbered.{AreNumbered}
use Rattle.dual_walk.proofs.tests.bodies_at.Given as goal

abbrev pub invariant-loop-i : goal.invariant-loop-i
invariant-loop-i l = AreNumbered l.bodies.items l.i
