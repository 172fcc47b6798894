use Rattle.force_field.proofs.Numbered.{AreNumbered}
use Rattle.rank_field.proofs.tests.fields.bodies_at.Given as goal

abbrev pub invariant-loop-i : goal.invariant-loop-i
invariant-loop-i l = AreNumbered l.bodies.items l.i
