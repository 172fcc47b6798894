use Rattle.std.proofs.Common.{◌≡◌, All, map}
use Rattle.std.specs.List.{range_with_len}
use Rattle.particle_set.specs.Rows.{HasKind}
use Rattle.restart_files.specs.RestartFile.{row_in}
use Rattle.restart_files.proofs.bodies.rows_of.Given as goal

abbrev pub invariant-loop-index : goal.invariant-loop-index
invariant-loop-index l = (All HasKind l.rows.items) × (l.rows.items ≡ map (row_in l.bytes) (range_with_len 0 l.index))
