use Rattle.std.proofs.Common.{◌≡◌, ◌++◌, take}
use Rattle.std.specs.List.{flat_map}
use Rattle.nbody_model.specs.SnapshotText.{of_kind}
use Rattle.snap_file.specs.Columns.{entry_of}
use Rattle.snap_file.proofs.write.push_kind.Given as goal

abbrev pub invariant-loop-body : goal.invariant-loop-body
invariant-loop-body l = l.out.items ≡ l.fn.out.items ++ flat_map (entry_of l.column) (of_kind (take l.body-index l.bodies) l.kind)
