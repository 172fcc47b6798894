-- What is wrong with the bytes of a file is why the file is refused.
use Rattle.std.proofs.Common.{◌≡◌, ℕ, IsTrue, List, subst}
use Rattle.snap_file.specs.Snapshots.{IsSnapshotFault}
use Rattle.gadget.specs.declared.status.Status.{Status}
use Rattle.gadget.specs.declared.status.Status.TheVariants.{Done, Stopped, Usage, Memory, ReadFault, WriteFault, ConsoleFault, Absent, TooLong, Param, Outputs, Table, Snapshot, Restart, Differs, Expansion, Catalogue, MomRange, StepRange}
use Rattle.gadget.specs.Reads.{Seen, WasRead}
use Rattle.gadget.specs.Snapshots.{SnapshotAnswer, SnapshotRefusal, longest_snapshot}

pub snapshot_refused : (s : Seen) (name bytes read : List ℕ) (status : Status) → read ≡ bytes → (IsTrue s.tells → WasRead s.files name longest_snapshot bytes) → SnapshotAnswer read status → SnapshotRefusal s name status
snapshot_refused s name bytes read (Snapshot err) e w a = (a.0, λ t. record { bytes = bytes; read = w t; fault = subst (λ bs. IsSnapshotFault bs err) e a.1 })
snapshot_refused s name bytes read Memory e w a = tt
snapshot_refused s name bytes read Done e w a = absurd a
snapshot_refused s name bytes read (Stopped steps tick) e w a = absurd a
snapshot_refused s name bytes read Usage e w a = absurd a
snapshot_refused s name bytes read (ReadFault n) e w a = absurd a
snapshot_refused s name bytes read (WriteFault n) e w a = absurd a
snapshot_refused s name bytes read ConsoleFault e w a = absurd a
snapshot_refused s name bytes read (Absent n) e w a = absurd a
snapshot_refused s name bytes read (TooLong n len) e w a = absurd a
snapshot_refused s name bytes read (Param err) e w a = absurd a
snapshot_refused s name bytes read (Outputs err) e w a = absurd a
snapshot_refused s name bytes read (Table err) e w a = absurd a
snapshot_refused s name bytes read (Restart err) e w a = absurd a
snapshot_refused s name bytes read (Differs row) e w a = absurd a
snapshot_refused s name bytes read (Catalogue n kind) e w a = absurd a
snapshot_refused s name bytes read (Expansion err) e w a = absurd a
snapshot_refused s name bytes read (MomRange tick bin id axis) e w a = absurd a
snapshot_refused s name bytes read (StepRange tick id) e w a = absurd a
