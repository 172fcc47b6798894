use Rattle.home_cells.proofs.Divided.{AreHanded}
use Rattle.home_cells.proofs.tests.own_of.Given as goal

abbrev pub invariant-loop-i : goal.invariant-loop-i
invariant-loop-i l = AreHanded l.bodies l.owners l.rank l.i l.own.items
