-- Bodies that a snapshot has room for are read back from it.
use Rattle.std.specs.Prelude.{◌<◌, ◌^◌, ℕ, List, [], ◌∷◌, length, All}
use Rattle.nbody_model.specs.Bodies.{BodyData, IsValid}
use Rattle.nbody_model.specs.SnapshotText.{of_kind, snapshot_text}
use Rattle.particle_set.specs.Stored.{IsStorable}
use Rattle.snap_file.specs.declared.head.Head.{Head}
use Rattle.snap_file.specs.Snapshots.{SpellsHead, SpellsSnapshot}

-- the head of a snapshot of these bodies
abbrev pub head_of : List BodyData → ℕ → ℕ → Head
head_of B tick number =
    record {
      counts = 0 ∷ length (of_kind B 1) ∷ length (of_kind B 2) ∷ length (of_kind B 3) ∷ length (of_kind B 4) ∷ length (of_kind B 5) ∷ [];
      tick = tick;
      number = number;
    }

-- the text of a snapshot is read to its head and to its bodies
pub record IsReadBack (B : List BodyData) (tick number : ℕ) : Type 0 where
  pub head : SpellsHead (snapshot_text B tick number) (head_of B tick number)
  pub bodies : SpellsSnapshot (snapshot_text B tick number) B

-- so it is for each set of bodies that a snapshot has room for
abbrev pub ReadsWritten : Type 0
ReadsWritten = (B : List BodyData) (tick number : ℕ) → IsValid B → All IsStorable B → tick < 2 ^ 64 → number < 2 ^ 32 → IsReadBack B tick number
