-- How many answers the bytes of a snapshot have.
use Rattle.std.specs.Prelude.{◌≡◌, ℕ, List}
use Rattle.nbody_model.specs.Bodies.{BodyData}
use Rattle.particle_set.specs.Rows.{IsRefusalByMemory}
use Rattle.snap_file.specs.declared.head.Head.{Head}
use Rattle.snap_file.specs.declared.errors.SnapErr.{SnapErr}
use Rattle.snap_file.specs.declared.errors.SnapErr.TheVariants.{Block as InFrames, RepeatedBlock, MissingBlock, HeadLength, HeadTag, Gas, BlockLength, Bodies as InBodies, Memory}
use Rattle.snap_file.specs.Snapshots.{SpellsHead, SpellsSnapshot, IsHeadFault, IsSnapshotFault}

-- the error is want of memory
abbrev pub IsWantOfMemory : SnapErr → Type 0
IsWantOfMemory (InFrames e) = ⊥
IsWantOfMemory (RepeatedBlock name) = ⊥
IsWantOfMemory (MissingBlock name) = ⊥
IsWantOfMemory (HeadLength got) = ⊥
IsWantOfMemory HeadTag = ⊥
IsWantOfMemory (Gas count) = ⊥
IsWantOfMemory (BlockLength name want got) = ⊥
IsWantOfMemory (InBodies e) = IsRefusalByMemory e
IsWantOfMemory Memory = Unit {0}

-- bytes have at most one head and are a snapshot of at most one set, and what has a head or is a snapshot has no fault
pub record ReadOneWay (bytes : List ℕ) : Type 0 where
  pub one_head : (h k : Head) → SpellsHead bytes h → SpellsHead bytes k → h ≡ k
  pub one_value : (B C : List BodyData) → SpellsSnapshot bytes B → SpellsSnapshot bytes C → B ≡ C
  pub apart : (B : List BodyData) (e : SnapErr) → SpellsSnapshot bytes B → IsSnapshotFault bytes e → IsWantOfMemory e
  pub head_apart : (h : Head) (e : SnapErr) → SpellsHead bytes h → IsHeadFault bytes e → IsWantOfMemory e
