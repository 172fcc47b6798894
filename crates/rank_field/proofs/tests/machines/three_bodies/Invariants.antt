use Rattle.force_field.proofs.Numbered.{AreNumbered}
use Rattle.rank_field.proofs.tests.machines.three_bodies.Given as goal

abbrev pub invariant-loop-i : goal.invariant-loop-i
invariant-loop-i l = AreNumbered l.bodies.items l.i
