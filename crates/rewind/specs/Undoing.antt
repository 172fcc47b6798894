-- A kick that is taken back, by forces at places.
use Rattle.std.specs.Prelude.{◌≡◌, ℕ, List, Option, Some}
use Rattle.fixed_point.specs.declared.V3.{V3}
use Rattle.nbody_model.specs.Bodies.{BodyData}
use Rattle.kick_drift.specs.declared.kicks.KickErr.{KickErr}
use Rattle.kick_drift.specs.declared.kicks.KickErr.TheVariants.{MomRange as KickOut}
use Rattle.kick_drift.specs.Parts.{ids_at, change_of}
use Rattle.rewind_laws.specs.Back.{unkicked_bodies}
use Rattle.rewind.specs.declared.errors.RewindErr.{RewindErr}
use Rattle.rewind.specs.declared.errors.RewindErr.TheVariants.{Tick, Tag, Record, EndMark, MomRange, BinsDiffer, Memory}

-- the bodies before a kick by h of those at the places whole, by their forces f, less the forces g of those at the places fast
abbrev pub before_kick : ℕ → List ℕ → List V3 → List ℕ → List V3 → List BodyData → List BodyData
before_kick h whole f fast g B = unkicked_bodies h (ids_at B whole) (change_of (ids_at B whole) f (ids_at B fast) g) B

-- a body was out of range before, or memory is wanting
abbrev pub IsOutBefore : Option (ℕ × ℕ) → RewindErr → Type 0
IsOutBefore out (MomRange id axis) = out ≡ Some (id, axis)
IsOutBefore out Memory = Unit {0}
IsOutBefore out Tag = ⊥
IsOutBefore out EndMark = ⊥
IsOutBefore out (Tick want got) = ⊥
IsOutBefore out (Record at) = ⊥
IsOutBefore out (BinsDiffer tick id) = ⊥

-- why a kick isn't taken back, where that by the opposite forces is refused
abbrev pub out_before : KickErr → RewindErr
out_before (KickOut id axis) = MomRange id axis
