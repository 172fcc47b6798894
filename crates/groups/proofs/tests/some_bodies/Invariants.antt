use Rattle.std.proofs.Common.{All}
use Rattle.particle_set.specs.Rows.{HasKind}
use Rattle.groups.proofs.tests.some_bodies.Given as goal

abbrev pub invariant-loop-i : goal.invariant-loop-i
invariant-loop-i l = All HasKind l.rows.items
