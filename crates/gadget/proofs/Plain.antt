-- Errors that aren't want of memory.
use Rattle.std.proofs.Common.{◌≡◌, refl, ap}
use Rattle.particle_set.specs.declared.row.SetErr.{SetErr}
use Rattle.particle_set.specs.declared.row.SetErr.TheVariants.{TooMany, Repeated, ZeroMass, MassTotal, MomRange, Memory as NoRoom}
use Rattle.particle_set.specs.Rows.{IsRefusalByMemory}
use Rattle.snap_file.specs.declared.errors.SnapErr.{SnapErr}
use Rattle.snap_file.specs.declared.errors.SnapErr.TheVariants.{Block, RepeatedBlock, MissingBlock, HeadLength, HeadTag, Gas, BlockLength, Bodies, Memory}
use Rattle.snap_file.specs.Exact.{IsWantOfMemory}
use Rattle.restart_files.specs.declared.errors.RestartErr.{RestartErr}
use Rattle.restart_files.specs.declared.errors.RestartErr.TheVariants.{Tag, Length, Version, Field, EndMark, Bodies as InBodies, Memory as RestartMemory}
use Rattle.restart_files.specs.Exact.{IsWantOfMemory as IsRestartMemory}

refused_room : (e : SetErr) → IsRefusalByMemory e → e ≡ NoRoom
refused_room (TooMany n) w = absurd w
refused_room (Repeated id) w = absurd w
refused_room (ZeroMass id) w = absurd w
refused_room (MassTotal sum) w = absurd w
refused_room (MomRange id) w = absurd w
refused_room NoRoom w = refl

pub plain_snapshot : (err : SnapErr) → (err ≡ Memory → ⊥) → (err ≡ Bodies NoRoom → ⊥) → IsWantOfMemory err → ⊥
plain_snapshot (Block e) m b w = w
plain_snapshot (RepeatedBlock name) m b w = w
plain_snapshot (MissingBlock name) m b w = w
plain_snapshot (HeadLength got) m b w = w
plain_snapshot HeadTag m b w = w
plain_snapshot (Gas count) m b w = w
plain_snapshot (BlockLength name want got) m b w = w
plain_snapshot (Bodies e) m b w = b (ap Bodies (refused_room e w))
plain_snapshot Memory m b w = m refl

pub plain_restart : (err : RestartErr) → (err ≡ RestartMemory → ⊥) → (err ≡ InBodies NoRoom → ⊥) → IsRestartMemory err → ⊥
plain_restart Tag m b w = w
plain_restart (Length want got) m b w = w
plain_restart (Version v) m b w = w
plain_restart (Field at) m b w = w
plain_restart EndMark m b w = w
plain_restart (InBodies e) m b w = b (ap InBodies (refused_room e w))
plain_restart RestartMemory m b w = m refl
