-- What the calls that take a step back promise.
use Rattle.std.specs.Prelude.{◌≡◌, ◌≤◌, ◌+◌, ◌-◌, ◌^◌, ℕ, List, [], ◌++◌, length, take}
use Rattle.std.specs.List.{flat_map}
use Rattle.nbody_model.specs.Bodies.{BodyData}
use Rattle.nbody_model.specs.Setups.{SetupData}
use Rattle.nbody_model.specs.Tables.{Rules}
use Rattle.nbody_model.specs.Factors.{kick_factor}
use Rattle.rewind_laws.specs.Back.{StepParts, Alone, With, fast_of, AreParts, Back, Reached, Failed, MomentumOut, BinsDiffer as OthersFast, ◌>>-◌, AreRunParts, back_kick, as_told, back, back_between, back_run}
use Rattle.rewind.specs.declared.errors.RewindErr.{RewindErr}
use Rattle.rewind.specs.declared.errors.RewindErr.TheVariants.{Tick, Tag, Record, EndMark, MomRange, BinsDiffer, Memory}
use Rattle.rewind.specs.Kept.{by_end}

-- taking back failed with this fault, or memory is wanting
abbrev pub IsRefusedBy : Back → RewindErr → Type 0
IsRefusedBy back (MomRange id axis) = back ≡ Failed (MomentumOut id axis)
IsRefusedBy back (BinsDiffer tick id) = back ≡ Failed (OthersFast tick id)
IsRefusedBy back Memory = Unit {0}
IsRefusedBy back Tag = ⊥
IsRefusedBy back EndMark = ⊥
IsRefusedBy back (Tick want got) = ⊥
IsRefusedBy back (Record at) = ⊥

-- the fast parts of a step's finer steps
abbrev pub inner : StepParts → List (List ℕ)
inner Alone = []
inner (With F one two) = by_end one ++ by_end two

-- the last of the first lists, as many as are left, are the fast parts of a step of P in a bin
pub record IsLeft (low bin : ℕ) (P : List ℕ) (lists : List (List ℕ)) (left : ℕ) : Type 0 where
  pub parts : StepParts
  pub before : List (List ℕ)
  pub good : AreParts low bin P parts
  pub are : take left lists ≡ before ++ by_end parts
  pub within : left ≤ length lists

-- the same of its finer steps, where F is its fast part
pub record IsInside (low bin : ℕ) (P F : List ℕ) (lists : List (List ℕ)) (left : ℕ) : Type 0 where
  pub parts : StepParts
  pub before : List (List ℕ)
  pub good : AreParts low bin P parts
  pub fast : F ≡ fast_of parts
  pub are : take left lists ≡ before ++ inner parts
  pub within : left ≤ length lists

-- bodies were reached, and the lists before are left
pub record Comes (b : Back) (before lists : List (List ℕ)) (C : List BodyData) (left : ℕ) : Type 0 where
  pub reached : b ≡ Reached C
  pub are : take left lists ≡ before
  pub within : left ≤ length lists

-- a step was taken back
abbrev pub IsUndone : Rules → ℕ → List ℕ → ℕ → List (List ℕ) → List BodyData → ℕ → List BodyData → ℕ → Type 0
IsUndone r bin P t lists B left C rest = (a : IsLeft r.gravity.setup.low_bin bin P lists left) → Comes (back r bin a.parts P t B) a.before lists C rest

-- or it couldn't be
abbrev pub IsNotUndone : Rules → ℕ → List ℕ → ℕ → List (List ℕ) → List BodyData → ℕ → RewindErr → Type 0
IsNotUndone r bin P t lists B left e = (a : IsLeft r.gravity.setup.low_bin bin P lists left) → IsRefusedBy (back r bin a.parts P t B) e

-- its finer steps were
abbrev pub AreUndone : Rules → ℕ → List ℕ → List ℕ → ℕ → List (List ℕ) → List BodyData → ℕ → List BodyData → ℕ → Type 0
AreUndone r bin P F t lists B left C rest = (a : IsInside r.gravity.setup.low_bin bin P F lists left) → Comes (back_between (back r (bin - 1)) bin a.parts t B) a.before lists C rest

-- or they couldn't be
abbrev pub AreNotUndone : Rules → ℕ → List ℕ → List ℕ → ℕ → List (List ℕ) → List BodyData → ℕ → RewindErr → Type 0
AreNotUndone r bin P F t lists B left e = (a : IsInside r.gravity.setup.low_bin bin P F lists left) → IsRefusedBy (back_between (back r (bin - 1)) bin a.parts t B) e

-- the last stages of a step that is taken back: its first kick, and a look at its fast bodies
abbrev pub back_open : Rules → ℕ → List ℕ → List ℕ → ℕ → List BodyData → Back
back_open r bin P F t B = back_kick r.gravity P F (kick_factor r.expansion t (t + 2 ^ (bin - 1))) B >>- (λ A. as_told r.gravity bin P F t A)

-- the lists are the fast parts of all base steps of a run of these bodies
pub record AreOfRun (s : SetupData) (B : List BodyData) (lists : List (List ℕ)) : Type 0 where
  pub steps : List StepParts
  pub good : AreRunParts s B steps
  pub are : lists ≡ flat_map by_end steps

-- a run was taken back from bodies, by its fast parts
abbrev pub IsRewound : Rules → List (List ℕ) → List BodyData → List BodyData → Type 0
IsRewound r lists B A = (a : AreOfRun r.gravity.setup B lists) → back_run r a.steps B ≡ Reached A

-- or it couldn't be
abbrev pub IsRefusedRun : Rules → List (List ℕ) → List BodyData → RewindErr → Type 0
IsRefusedRun r lists B e = (a : AreOfRun r.gravity.setup B lists) → IsRefusedBy (back_run r a.steps B) e
