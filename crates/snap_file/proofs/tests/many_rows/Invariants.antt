use Rattle.std.proofs.Common.{All}
use Rattle.particle_set.specs.Rows.{HasKind}
use Rattle.snap_file.proofs.tests.many_rows.Given as goal

abbrev pub invariant-loop-id : goal.invariant-loop-id
invariant-loop-id l = All HasKind l.rows.items
