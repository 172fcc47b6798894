use Rattle.std.proofs.Common.{◌≡◌, ◌≤◌, length, take}
use Rattle.nbody_model.specs.SnapshotText.{of_kind}
use Rattle.snap_file.proofs.write.count_kind.Given as goal

abbrev pub invariant-loop-body : goal.invariant-loop-body
invariant-loop-body l = (l.count ≡ length (of_kind (take l.body-index l.bodies) l.kind)) × (l.count ≤ l.body-index)
