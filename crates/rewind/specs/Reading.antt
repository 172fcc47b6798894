-- What is read of a bin file, and why it isn't.
use Rattle.std.specs.Prelude.{◌≡◌, ◌≤◌, ℕ, true, false, List, length, Some, ◌++◌}
use Rattle.std.specs.List.{flat_map}
use Rattle.nbody_model.specs.Bodies.{BodyData}
use Rattle.nbody_model.specs.Setups.{SetupData}
use Rattle.rewind_laws.specs.Back.{StepParts, base_steps}
use Rattle.rewind_laws.specs.Bins.{Read, UpTo, Bad, ids_at, is_record, step_at, steps_at, first_fault, Spell, Tag as NoTag, Record as BadRecord, EndMark as NoEndMark}
use Rattle.rewind.specs.declared.errors.RewindErr.{RewindErr}
use Rattle.rewind.specs.declared.errors.RewindErr.TheVariants.{Tick, Tag, Record, EndMark, MomRange, BinsDiffer, Memory}
use Rattle.rewind.specs.Kept.{by_end}

-- the bytes spell these fast parts, and these are their lists
pub record SpellBins (bytes : List ℕ) (s : SetupData) (B : List BodyData) (lists : List (List ℕ)) : Type 0 where
  pub steps : List StepParts
  pub spell : Spell bytes s B steps
  pub are : lists ≡ flat_map by_end steps

-- it is the first fault of the bytes, or want of memory
abbrev pub IsFirstFault : List ℕ → SetupData → List BodyData → RewindErr → Type 0
IsFirstFault bytes s B Tag = first_fault bytes s B ≡ Some NoTag
IsFirstFault bytes s B (Record at) = first_fault bytes s B ≡ Some (BadRecord at)
IsFirstFault bytes s B EndMark = first_fault bytes s B ≡ Some NoEndMark
IsFirstFault bytes s B Memory = Unit {0}
IsFirstFault bytes s B (Tick want got) = ⊥
IsFirstFault bytes s B (MomRange id axis) = ⊥
IsFirstFault bytes s B (BinsDiffer tick id) = ⊥

-- ---- the records of steps

-- the record at a place is that of a step of P in a bin, and has these ids
pub record IsRecordAt (low bin : ℕ) (P bytes : List ℕ) (at : ℕ) (ids : List ℕ) : Type 0 where
  pub good : is_record low bin P bytes at ≡ true
  pub are : ids ≡ ids_at bytes at

-- it isn't, or memory is wanting
abbrev pub IsNoRecordAt : ℕ → ℕ → List ℕ → List ℕ → ℕ → RewindErr → Type 0
IsNoRecordAt low bin P bytes at (Record place) = (is_record low bin P bytes at ≡ false) × (place ≡ at)
IsNoRecordAt low bin P bytes at Memory = Unit {0}
IsNoRecordAt low bin P bytes at Tag = ⊥
IsNoRecordAt low bin P bytes at EndMark = ⊥
IsNoRecordAt low bin P bytes at (Tick want got) = ⊥
IsNoRecordAt low bin P bytes at (MomRange id axis) = ⊥
IsNoRecordAt low bin P bytes at (BinsDiffer tick id) = ⊥

-- from a place on the fast parts of a step of P in a bin were read up to the next place, and were added to the lists
pub record StepIsRead (low bin : ℕ) (P bytes : List ℕ) (at : ℕ) (before : List (List ℕ)) (next : ℕ) (after : List (List ℕ)) : Type 0 where
  pub parts : StepParts
  pub are : step_at low bin P bytes at ≡ UpTo parts next
  pub added : after ≡ before ++ by_end parts
  pub within : next ≤ length bytes

-- a bad record was met, or memory is wanting
abbrev pub IsBad : {X : Type 0} → Read X → RewindErr → Type 0
IsBad read (Record place) = read ≡ Bad place
IsBad read Memory = Unit {0}
IsBad read Tag = ⊥
IsBad read EndMark = ⊥
IsBad read (Tick want got) = ⊥
IsBad read (MomRange id axis) = ⊥
IsBad read (BinsDiffer tick id) = ⊥

-- the fast parts of all base steps of P were read behind the tag, up to a place, and these are their lists
pub record StepsAreRead (s : SetupData) (P bytes : List ℕ) (end : ℕ) (lists : List (List ℕ)) : Type 0 where
  pub steps : List StepParts
  pub are : steps_at s (base_steps s) P bytes 8 ≡ UpTo steps end
  pub listed : lists ≡ flat_map by_end steps
  pub within : end ≤ length bytes
