-- What is wrong with a snapshot's head is wrong with the snapshot.
use Rattle.std.proofs.Common.{List, ℕ, inl}
use Rattle.snap_file.specs.Snapshots.{IsHeadFault, IsSnapshotFault}
use Rattle.snap_file.specs.declared.errors.SnapErr.{SnapErr}
use Rattle.snap_file.specs.declared.errors.SnapErr.TheVariants.{Block, RepeatedBlock, MissingBlock, HeadLength, HeadTag, Gas, BlockLength, Bodies, Memory}

pub head_fault_is : (bytes : List ℕ) (err : SnapErr) → IsHeadFault bytes err → IsSnapshotFault bytes err
head_fault_is bytes (Block e) h = h
head_fault_is bytes (RepeatedBlock name) h = h
head_fault_is bytes (MissingBlock name) h = inl h
head_fault_is bytes (HeadLength got) h = h
head_fault_is bytes HeadTag h = h
head_fault_is bytes (Gas count) h = absurd h
head_fault_is bytes (BlockLength name want got) h = absurd h
head_fault_is bytes (Bodies e) h = absurd h
head_fault_is bytes Memory h = h
