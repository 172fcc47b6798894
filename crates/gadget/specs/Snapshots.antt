-- A snapshot that is read, and why it isn't accepted.
use Rattle.std.specs.Prelude.{ℕ, IsTrue, List}
use Rattle.store_io.specs.Files.{Files}
use Rattle.nbody_model.specs.Bodies.{BodyData}
use Rattle.snap_file.specs.Snapshots.{SpellsHead, SpellsSnapshot, IsSnapshotFault}
use Rattle.snap_file.specs.Exact.{IsWantOfMemory}
use Rattle.snap_file.specs.declared.head.Head.{Head}
use Rattle.snap_file.specs.declared.errors.SnapErr.{SnapErr}
use Rattle.gadget.specs.declared.status.Status.{Status}
use Rattle.gadget.specs.declared.status.Status.TheVariants.{Memory, Snapshot}
use Rattle.gadget.specs.Reads.{Seen, WasRead, NotRead, FileSpells, FileHasFault}

-- the longest snapshot, in bytes
abbrev pub longest_snapshot : ℕ
longest_snapshot = 268435456

-- the file of this name is a snapshot of these bodies
abbrev pub NamesBodies : Files → List ℕ → List BodyData → Type 0
NamesBodies files name B = FileSpells files name longest_snapshot SpellsSnapshot B

-- the file of this name is no snapshot, and this is its first fault
abbrev pub HasSnapshotFault : Files → List ℕ → SnapErr → Type 0
HasSnapshotFault files name err = FileHasFault files name longest_snapshot IsSnapshotFault err

-- the file of this name is a snapshot of these bodies with this head
pub record NamesSnapshot (files : Files) (name : List ℕ) (head : Head) (B : List BodyData) : Type 0 where
  pub bytes : List ℕ
  pub read : WasRead files name longest_snapshot bytes
  pub head_is : SpellsHead bytes head
  pub spelled : SpellsSnapshot bytes B

-- why a snapshot isn't accepted; want of memory is no error of the file
abbrev pub SnapshotRefusal : Seen → List ℕ → Status → Type 0
SnapshotRefusal s name (Snapshot err) = ¬ IsWantOfMemory err × (IsTrue s.tells → HasSnapshotFault s.files name err)
SnapshotRefusal s name status = NotRead s name longest_snapshot status

-- the answers of the reader alone
abbrev pub SnapshotAnswer : List ℕ → Status → Type 0
SnapshotAnswer bytes (Snapshot err) = ¬ IsWantOfMemory err × IsSnapshotFault bytes err
SnapshotAnswer bytes Memory = Unit {0}
SnapshotAnswer bytes status = ⊥
