-- The files of a session: their names and their bytes.
use Rattle.std.specs.Prelude.{ℕ, List}
use Rattle.nbody_model.specs.Setups.{SetupData}
use Rattle.nbody_model.specs.Session.{Written, Snapshot, Restart}
use Rattle.nbody_model.specs.SnapshotText.{snapshot_text}
use Rattle.nbody_model.specs.Texts.{numbered}
use Rattle.nbody_model.specs.RestartText.{restart_text}

-- the name of a file, by the bases of snapshots and of restart files
abbrev pub name_of : List ℕ → List ℕ → Written → List ℕ
name_of snapshot_base restart_base (Snapshot n σ) = numbered snapshot_base n
name_of snapshot_base restart_base (Restart n σ) = numbered restart_base n

-- its bytes
abbrev pub bytes_of : SetupData → Written → List ℕ
bytes_of s (Snapshot n σ) = snapshot_text σ.bodies σ.tick n
bytes_of s (Restart n σ) = restart_text σ s
