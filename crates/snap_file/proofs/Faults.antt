-- Faults and values of a snapshot, from its rows.
use Rattle.std.proofs.Common.{List, ℕ, inr, subst}
use Rattle.nbody_model.specs.Bodies.{BodyData}
use Rattle.particle_set.specs.declared.row.Row.{Row}
use Rattle.particle_set.specs.declared.row.SetErr.{SetErr}
use Rattle.particle_set.specs.declared.row.SetErr.TheVariants.{TooMany, Repeated, ZeroMass, MassTotal, MomRange, Memory as NoRoom}
use Rattle.particle_set.specs.Rows.{IsSetOf, IsFirstRefusal}
use Rattle.snap_file.specs.Snapshots.{HasRows, HasNoSet, IsSnapshotFault, SpellsSnapshot, refusal_of}

-- a set of the rows that the bytes have is the set that they spell
pub spelled : (bytes : List ℕ) (rows : List Row) (B : List BodyData) → HasRows bytes rows → IsSetOf rows B → SpellsSnapshot bytes B
spelled bytes rows B h s = record { blocks = h.blocks; head = h.head; columns = h.columns; has = h.has; bodies = subst (λ rs. IsSetOf rs B) h.are s }

no_set : (bytes : List ℕ) (rows : List Row) (e : SetErr) → HasRows bytes rows → IsFirstRefusal rows e → HasNoSet bytes e
no_set bytes rows e h r = record { blocks = h.blocks; head = h.head; columns = h.columns; has = h.has; refused = subst (λ rs. IsFirstRefusal rs e) h.are r }

-- a refusal of the rows that the bytes have is their first fault
pub from_bodies : (bytes : List ℕ) (rows : List Row) (e : SetErr) → HasRows bytes rows → IsFirstRefusal rows e → IsSnapshotFault bytes (refusal_of e)
from_bodies bytes rows (TooMany n) h r = inr (no_set bytes rows (TooMany n) h r)
from_bodies bytes rows (Repeated id) h r = inr (no_set bytes rows (Repeated id) h r)
from_bodies bytes rows (ZeroMass id) h r = inr (no_set bytes rows (ZeroMass id) h r)
from_bodies bytes rows (MassTotal sum) h r = inr (no_set bytes rows (MassTotal sum) h r)
from_bodies bytes rows (MomRange id) h r = inr (no_set bytes rows (MomRange id) h r)
from_bodies bytes rows NoRoom h r = tt
