use Rattle.std.proofs.Common.{◌≡◌, All, map}
use Rattle.std.specs.List.{range_with_len}
use Rattle.particle_set.specs.Rows.{HasKind}
use Rattle.snap_file.specs.Snapshots.{row_in}
use Rattle.snap_file.specs.Texts.{texts_of}
use Rattle.snap_file.proofs.rows.rows_of.Given as goal

abbrev pub invariant-loop-place : goal.invariant-loop-place
invariant-loop-place l = (All HasKind l.rows.items) × (l.rows.items ≡ map (row_in l.counts (texts_of l.columns)) (range_with_len 0 l.place))
